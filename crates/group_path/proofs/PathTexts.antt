-- A path's text, and that of its first names.
use Rattle.std.proofs.Common.{◌≡◌, ℕ, ◌<◌, ◌≤◌, max, List, [], ◌∷◌, length, take, refl, ap, ◌∙◌, arith, subst, None, length-append}
use Rattle.std.proofs.lemmas.List.{take_all}
use Rattle.flat_model.specs.Path.{Path}
use Rattle.flat_model.specs.PathText.{IsPath, names_in, spelled, path_text, path_fault, depth_max, text_max}
use Rattle.flat_model.proofs.PathTextLaws.{sound}
use Rattle.flat_model.proofs.PathTextLawsChild.{length-spelled-take}

-- a text without fault is the text of its names
pub text_is : (items : List ℕ) (p : Path) → names_in items ≡ p → path_fault items ≡ None → items ≡ path_text p
text_is items p e h = (sound items h).text_is ∙ ap path_text e

-- its names are a path of the grammar
pub path_is : (items : List ℕ) (p : Path) → names_in items ≡ p → path_fault items ≡ None → IsPath p
path_is items p e h = subst IsPath e (sound items h).path

-- a path has no more names than the bound
pub all_names : (p : Path) → IsPath p → take depth_max p ≡ p
all_names p h = take_all depth_max p h.shallow

-- more than a slash means names
long_by : (p : Path) → 1 < length (path_text p) → path_text p ≡ spelled p
long_by [] h = absurd (omega arith)
long_by (n ∷ p) h = refl

-- a text of more than a slash is what spells the names
pub long_text : (items : List ℕ) (p : Path) → names_in items ≡ p → path_fault items ≡ None → 1 < length items → items ≡ spelled p
long_text items p e h l = let t = text_is items p e h in t ∙ long_by p (subst (λ (x : List ℕ). 1 < length x) t l)

-- what spells the names has the text's length, but for the root's slash
pub length-path_text : (p : Path) → max (length (spelled p)) 1 ≡ length (path_text p)
length-path_text [] = refl
length-path_text (n ∷ p) = let e = length-append (47 ∷ n) (spelled p) in omega arith

-- the first names are spelled in no more bytes than a text may have
pub short_front : (n : ℕ) (p : Path) → IsPath p → length (spelled (take n p)) ≤ text_max
short_front n p h =
    let a = length-spelled-take n p in
    let b = length-path_text p in
    let c = h.short in
    omega arith

-- the bytes counted, and one for the root
pub length_is : (n : ℕ) (p : Path) (len result : ℕ) → len ≡ length (spelled (take n p)) → result ≡ max len 1 → result ≡ length (path_text (take n p))
length_is n p len result e r = r ∙ ap (λ m. max m 1) e ∙ length-path_text (take n p)

-- the text of the root has no fault
slash_alone : path_fault (47 ∷ []) ≡ None
unfolding path_fault
slash_alone = refl

pub root_faultless : (text : List ℕ) → text ≡ 47 ∷ [] → path_fault text ≡ None
root_faultless text e = ap path_fault e ∙ slash_alone
