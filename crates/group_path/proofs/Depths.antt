-- A path has as many names as its text has slashes, but for the root.
use Rattle.std.proofs.Common.{◌≡◌, ◌<◌, ◌+◌, ◌%◌, ◌^◌, ◌++◌, cond, List, ℕ, [], ◌∷◌, length, count_by, refl, ap, ◌∙◌, arith, None}
use Rattle.std.specs.List.{AllByRecursion}
use Rattle.flat_model.specs.Path.{Name, Path}
use Rattle.flat_model.specs.PathText.{is_slash, spelled, names_in, path_fault}
use Rattle.flat_model.proofs.PathTextLaws.{NoSlash, cleans}
use Rattle.flat_model.proofs.Sums.{count_by-cons, count_by-append}
use Rattle.group_path.proofs.PathTexts.{path_is, long_text}

none_in : (name : Name) → NoSlash name → count_by is_slash name ≡ 0
none_in [] h = refl
none_in (b ∷ name) h = count_by-cons is_slash b name ∙ ap (λ t. cond t 1 0 + count_by is_slash name) h.0 ∙ (let k = none_in name h.1 in omega (arith, k))

-- one slash before each name
one_each : (names : Path) → AllByRecursion NoSlash names → count_by is_slash (spelled names) ≡ length names
one_each [] h = refl
one_each (name ∷ names) h =
    let first = count_by-cons is_slash 47 (name ++ spelled names) in
    let rest = count_by-append is_slash name (spelled names) in
    let own = none_in name h.0 in
    let others = one_each names h.1 in
    omega (arith, first, rest, own, others)

-- the slashes of a text of more than one byte, counted modulo 256
pub slashes_are : (items : List ℕ) (p : Path) (n : ℕ) → names_in items ≡ p → path_fault items ≡ None → 1 < length items → n ≡ count_by is_slash items % 2 ^ 8 → n ≡ length p
slashes_are items p n e h l is =
    let path = path_is items p e h in
    let all = ap (count_by is_slash) (long_text items p e h l) ∙ one_each p (cleans p path.all_names) in
    omega (arith, is, all, path.shallow)
