-- The first names of a path of the grammar are one too, and one more name is by the test of `child_path`.
use Rattle.std.proofs.Common.{◌≡◌, ℕ, ◌+◌, ◌≤◌, false, nat_lt, nat_le, ◌↔◌, List, [], ◌∷◌, ◌++◌, length, take, zero, suc, refl, ap, sym, ltb-false, le-ltb}
use Rattle.std.proofs.Common.{◌∙◌, arith, None, Ok, append_assoc, append-nil, length-append, length-take}
use Rattle.std.specs.List.{AllByRecursion}
use Rattle.std.proofs.lemmas.Bool.Decides.{nat_tests}
use Rattle.flat_model.specs.Path.{Name, Path}
use Rattle.flat_model.specs.PathText.{spelled, path_text, depth_max, text_max, IsName, IsPath, TooDeep, TooLong, name_fault, child_fault, child_path}
use Rattle.flat_model.specs.Refuse.{refuse, unless}
use Rattle.flat_model.proofs.PathTextLaws.{refuse_none, refuse_passed, option_or_none, option_or_passed, unless_ok, sound_name, full_name}

-- names in a row are spelled in a row
pub spelled-append : (p q : Path) → spelled (p ++ q) ≡ spelled p ++ spelled q
spelled-append [] q = refl
spelled-append (n ∷ p) q = ap (λ (x : List ℕ). 47 ∷ n ++ x) (spelled-append p q) ∙ sym (append_assoc (47 ∷ n) (spelled p) (spelled q))

-- a path with names has the text that spells them
pub path_text-append : (p : Path) (name : Name) → path_text (p ++ name ∷ []) ≡ spelled (p ++ name ∷ [])
path_text-append [] name = refl
path_text-append (n ∷ p) name = refl

-- the text of one more name: what spells the others, a slash and the name
pub path_text-child : (p : Path) (name : Name) → path_text (p ++ name ∷ []) ≡ spelled p ++ 47 ∷ name
path_text-child p name = path_text-append p name ∙ spelled-append p (name ∷ []) ∙ ap (λ (x : List ℕ). spelled p ++ 47 ∷ x) (append-nil name)

-- fewer names are spelled in fewer bytes
pub length-spelled-take : (n : ℕ) (p : Path) → length (spelled (take n p)) ≤ length (spelled p)
length-spelled-take zero p = omega arith
length-spelled-take (suc n) [] = omega arith
length-spelled-take (suc n) (m ∷ p) = let h = length-spelled-take n p in omega (arith, length-append (47 ∷ m) (spelled (take n p)), length-append (47 ∷ m) (spelled p))

-- the same of the texts
pub length-path_text-take : (n : ℕ) (p : Path) → length (path_text (take n p)) ≤ length (path_text p)
length-path_text-take zero [] = omega arith
length-path_text-take zero (m ∷ p) = omega (arith, length-append (47 ∷ m) (spelled p))
length-path_text-take (suc n) [] = omega arith
length-path_text-take (suc n) (m ∷ p) = length-spelled-take (suc n) (m ∷ p)

-- the names of some are those of all
names_take : (n : ℕ) (p : Path) → AllByRecursion IsName p → AllByRecursion IsName (take n p)
names_take zero p h = tt
names_take (suc n) [] h = tt
names_take (suc n) (m ∷ p) h = (h.0, names_take n p h.1)

-- the first names of a path of the grammar
pub IsPath-take : (n : ℕ) (p : Path) → IsPath p → IsPath (take n p)
IsPath-take n p h = record {
  all_names = names_take n p h.all_names;
  shallow = let k = length-take n p in let s = h.shallow in omega arith;
  short = let k = length-path_text-take n p in let s = h.short in omega arith;
}

-- names of the grammar behind others
names_append : (p q : Path) → AllByRecursion IsName p → AllByRecursion IsName q → AllByRecursion IsName (p ++ q)
names_append [] q h k = k
names_append (n ∷ p) q h k = (h.0, names_append p q h.1 k)

-- the last name of a path of the grammar
name_last : (p : Path) (name : Name) → AllByRecursion IsName (p ++ name ∷ []) → IsName name
name_last [] name h = h.0
name_last (n ∷ p) name h = name_last p name h.1

-- what the tests of numbers say
le_no : (a b : ℕ) → nat_le a b ≡ false → b + 1 ≤ a
le_no a b e = grind (arith, nat_tests)

no_le : (a b : ℕ) → b + 1 ≤ a → nat_le a b ≡ false
no_le a b h = grind (arith, nat_tests)

-- one more name that has no fault
pub sound_child : (p : Path) (name : Name) → IsPath p → child_fault p name ≡ None → IsPath (p ++ name ∷ [])
unfolding child_fault
sound_child p name h e =
    let long = refuse (nat_lt text_max (length (path_text (p ++ name ∷ [])))) TooLong None in
    let a = option_or_none (name_fault 0 name) (refuse (nat_le depth_max (length p)) TooDeep long) e in
    let b = refuse_none (nat_le depth_max (length p)) TooDeep long a.1 in
    let c = refuse_none (nat_lt text_max (length (path_text (p ++ name ∷ [])))) TooLong None b.1 in
    record {
      all_names = names_append p (name ∷ []) h.all_names (sound_name 0 name a.0, tt);
      shallow = let k = le_no depth_max (length p) b.0 in omega (arith, length-append p (name ∷ []));
      short = ltb-false text_max (length (path_text (p ++ name ∷ []))) c.0;
    }

-- a child in the grammar has no fault
pub full_child : (p : Path) (name : Name) → IsPath (p ++ name ∷ []) → child_fault p name ≡ None
unfolding child_fault
full_child p name h =
    let long = refuse (nat_lt text_max (length (path_text (p ++ name ∷ [])))) TooLong None in
    let deep : length p + 1 ≤ depth_max = let s = h.shallow in omega (arith, length-append p (name ∷ [])) in
    option_or_passed (name_fault 0 name) (refuse (nat_le depth_max (length p)) TooDeep long) (full_name 0 name (name_last p name h.all_names))
    ∙ refuse_passed (nat_le depth_max (length p)) TooDeep long (no_le depth_max (length p) deep)
    ∙ refuse_passed (nat_lt text_max (length (path_text (p ++ name ∷ [])))) TooLong None (le-ltb text_max (length (path_text (p ++ name ∷ []))) h.short)

-- a child is given exactly where it is in the grammar
pub child_path_is : (p : Path) (name : Name) → IsPath p → (child_path p name ≡ Ok (p ++ name ∷ [])) ↔ IsPath (p ++ name ∷ [])
child_path_is p name h = (
  λ e. sound_child p name h (unless_ok (child_fault p name) (p ++ name ∷ []) (p ++ name ∷ []) e).0,
  λ k. ap (λ o. unless o (p ++ name ∷ [])) (full_child p name k),
)

-- no other path is given
pub child_path_only : (p q : Path) (name : Name) → child_path p name ≡ Ok q → q ≡ p ++ name ∷ []
child_path_only p q name e = sym (unless_ok (child_fault p name) (p ++ name ∷ []) q e).1
