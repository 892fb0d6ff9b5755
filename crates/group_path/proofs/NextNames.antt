-- The next name of an iterator: what stands before the next slash.
use Rattle.std.proofs.Common.{◌≡◌, ℕ, ◌+◌, ◌-◌, ◌<◌, nat_lt, List, [], ◌∷◌, length, take, drop, zero, suc, refl, ap, sym, ◌∙◌, arith, Option, Some, None}
use Rattle.std.specs.List.{position, position_or_len, slice_split}
use Rattle.std.proofs.lemmas.List.{take_rest}
use Rattle.std.proofs.lemmas.List.Sums.{fails_before_first}
use Rattle.std.proofs.lemmas.List.Splits.{slice_split_first, slice_split_none}
use Rattle.flat_model.specs.Path.{Name}
use Rattle.flat_model.specs.PathText.{is_slash}
use Rattle.group_path.specs.Names.{names_behind}
use Rattle.flat_model.proofs.Booleans.{place_by, no_place}

-- the first of what is taken
take_more : {X : Type 0} (n : ℕ) (x : X) (xs : List X) → (n ≡ 0 → ⊥) → take n (x ∷ xs) ≡ x ∷ take (n - 1) xs
take_more zero x xs e = absurd (e refl)
take_more (suc n) x xs e = let k : n ≡ suc n - 1 = omega arith in ap (λ m. x ∷ take m xs) k

-- the parts, at the first slash
cut_at : (bytes : List ℕ) (end : ℕ) → Some end ≡ position is_slash bytes → slice_split is_slash bytes ≡ take end bytes ∷ slice_split is_slash (drop (end + 1) bytes)
cut_at bytes end h =
    let p = place_by (position_or_len is_slash bytes) (length bytes) end (nat_lt (position_or_len is_slash bytes) (length bytes)) refl h in
    slice_split_first is_slash bytes 0 p.0 ∙ ap (λ n. take n bytes ∷ slice_split is_slash (drop (n + 1) bytes)) p.1

-- the name before a slash is the first that is left
cut_name : (names : List Name) (left end : ℕ) (rest : Option (List ℕ)) (bytes : List ℕ) → take left (names_behind rest) ≡ names
    → (left ≡ 0 → ⊥) → rest ≡ Some bytes → Some end ≡ position is_slash bytes
    → names ≡ take end bytes ∷ take (left - 1) (slice_split is_slash (drop (end + 1) bytes))
cut_name names left end rest bytes is some e h =
    sym is ∙ ap (λ r. take left (names_behind r)) e ∙ ap (take left) (cut_at bytes end h) ∙ take_more left (take end bytes) (slice_split is_slash (drop (end + 1) bytes)) some

-- the same with the rest as the code slices it
pub cut_slice : (names : List Name) (left end : ℕ) (rest : Option (List ℕ)) (bytes : List ℕ) → take left (names_behind rest) ≡ names
    → (left ≡ 0 → ⊥) → rest ≡ Some bytes → Some end ≡ position is_slash bytes
    → names ≡ take end bytes ∷ take (left - 1) (slice_split is_slash (take (length bytes - (end + 1)) (drop (end + 1) bytes)))
cut_slice names left end rest bytes is some e h =
    cut_name names left end rest bytes is some e h ∙ ap (λ x. take end bytes ∷ take (left - 1) (slice_split is_slash x)) (sym (take_rest bytes (end + 1)))

-- with no slash the bytes are one name
whole : (bytes : List ℕ) → None ≡ position is_slash bytes → slice_split is_slash bytes ≡ bytes ∷ []
whole bytes h =
    let e = no_place (position_or_len is_slash bytes) (length bytes) (nat_lt (position_or_len is_slash bytes) (length bytes)) refl h in
    slice_split_none is_slash bytes (λ k d l. fails_before_first is_slash bytes k d (let j : k < position_or_len is_slash bytes = omega arith in j))

-- that is then the last
pub last_name : (names : List Name) (left : ℕ) (rest : Option (List ℕ)) (bytes : List ℕ) → take left (names_behind rest) ≡ names
    → (left ≡ 0 → ⊥) → rest ≡ Some bytes → None ≡ position is_slash bytes → names ≡ bytes ∷ take (left - 1) []
last_name names left rest bytes is some e h =
    sym is ∙ ap (λ r. take left (names_behind r)) e ∙ ap (take left) (whole bytes h) ∙ take_more left bytes [] some
