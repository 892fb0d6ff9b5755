-- What the tests of the grammar say of a path that is read, and of a child.
use Rattle.std.proofs.Common.{◌≡◌, ℕ, ◌+◌, ◌<◌, ◌≤◌, true, false, nat_le, nat_lt, List, [], ◌∷◌, ◌++◌, length, refl, ap, sym, ◌∙◌, arith, Option, Some, None, Ok, Err, length-append}
use Rattle.flat_model.specs.Path.{Name, Path}
use Rattle.flat_model.specs.PathText as grammar
use Rattle.flat_model.specs.PathText.{IsPath, names_in, spelled, path_text, path_fault, name_fault, child_fault, name_max, depth_max, text_max}
use Rattle.flat_model.specs.Refuse.{refuse, unless}
use Rattle.flat_model.proofs.PathTextLaws.{refuse_passed, option_or_passed, sound, names_in-path_text, path_fault-path_text}
use Rattle.flat_model.proofs.PathTextLawsChild.{path_text-child, sound_child}
use Rattle.group_path.specs.FollowsGrammar.{checked, FollowsGrammar}
use Rattle.std.proofs.lemmas.Bool.Decides.{nat_tests}
use Rattle.group_path.specs.declared.fault.PathFault.{PathFault}
use Rattle.group_path.specs.declared.fault.PathFault.TheVariants.{TooLong}

-- the tests passed: there is no fault
no_fault : (o : Option grammar.PathFault) (u : Unit {0}) → checked o ≡ Ok u → o ≡ None
no_fault None u e = refl
no_fault (Some fault) u e = cc

-- what the test of the depth says
not_deep : (n : ℕ) → n < depth_max → nat_le depth_max n ≡ false
not_deep n d = grind (arith, nat_tests)

-- ---- reading

-- what is read is a path, and the text its own
pub read_found : (text items : List ℕ) (u : Unit {0}) → checked (path_fault text) ≡ Ok u → items ≡ text → IsPath (names_in items) × (text ≡ path_text (names_in items))
read_found text items u e is = let s = sound items (ap path_fault is ∙ no_fault (path_fault text) u e) in (s.path, sym is ∙ s.text_is)

-- the text of a path is read as that path
pub read_only : (text items : List ℕ) (p : Path) → items ≡ text → IsPath p → text ≡ path_text p → names_in items ≡ p
read_only text items p is h t = ap names_in (is ∙ t) ∙ names_in-path_text p h

-- the text of a path has no fault
pub read_faulty : (text : List ℕ) (fault : PathFault) (p : Path) → checked (path_fault text) ≡ Err fault → IsPath p → text ≡ path_text p → ⊥
read_faulty text fault p e h t = let none : path_fault text ≡ None = ap path_fault t ∙ path_fault-path_text p h in cc

-- ---- a child

-- the last test, of the length, behind those of the name and the depth
child_fault_is : (p : Path) (name : Name) (u : Unit {0}) → checked (name_fault 0 name) ≡ Ok u → length p < depth_max
    → child_fault p name ≡ refuse (nat_lt text_max (length (spelled p) + 1 + length name)) grammar.TooLong None
unfolding child_fault
child_fault_is p name u e d =
    let l : length (path_text (p ++ name ∷ [])) ≡ length (spelled p) + 1 + length name = let k = ap length (path_text-child p name) ∙ length-append (spelled p) (47 ∷ name) in omega arith in
    option_or_passed (name_fault 0 name)
    (refuse (nat_le depth_max (length p)) grammar.TooDeep
    (refuse (nat_lt text_max (length (path_text (p ++ name ∷ [])))) grammar.TooLong None)) (no_fault (name_fault 0 name) u e)
    ∙ refuse_passed (nat_le depth_max (length p)) grammar.TooDeep (refuse (nat_lt text_max (length (path_text (p ++ name ∷ [])))) grammar.TooLong None) (not_deep (length p) d)
    ∙ ap (λ n. refuse (nat_lt text_max n) grammar.TooLong None) l

-- the text would be too long
pub child_long : (p : Path) (name : Name) (u : Unit {0}) → checked (name_fault 0 name) ≡ Ok u → length p < depth_max
    → text_max < length (spelled p) + 1 + length name → Err TooLong ≡ checked (child_fault p name)
child_long p name u e d l =
    let t : nat_lt text_max (length (spelled p) + 1 + length name) ≡ true = grind (arith, nat_tests) in
    sym (ap checked (child_fault_is p name u e d ∙ ap (λ b. refuse b grammar.TooLong None) t))

-- no test refuses the name
pub child_passes : (p : Path) (name : Name) (u : Unit {0}) → checked (name_fault 0 name) ≡ Ok u → length p < depth_max
    → length (spelled p) + 1 + length name ≤ text_max → Ok tt ≡ checked (child_fault p name)
child_passes p name u e d l =
    let t : nat_lt text_max (length (spelled p) + 1 + length name) ≡ false = grind (arith, nat_tests) in
    sym (ap checked (child_fault_is p name u e d ∙ ap (λ b. refuse b grammar.TooLong None) t))

-- where the tests pass the child is a path of the grammar
child_is : (p : Path) (name : Name) (u : Unit {0}) → IsPath p → checked (child_fault p name) ≡ Ok u → IsPath (p ++ name ∷ [])
child_is p name u h e = sound_child p name h (no_fault (child_fault p name) u e)

-- so its text is short enough for its length to be a number of the machine
pub child_short : (p : Path) (name : Name) (u : Unit {0}) → IsPath p → checked (child_fault p name) ≡ Ok u → length (spelled p) + length name ≤ text_max + name_max
child_short p name u h e =
    let s = (child_is p name u h e).short in
    let l = ap length (path_text-child p name) ∙ length-append (spelled p) (47 ∷ name) in
    omega arith

-- the parts of a short text are short
pub child_few : (p : Path) (name : Name) (most : ℕ) → length (path_text (p ++ name ∷ [])) ≤ most → length (spelled p) + 1 + length name ≤ most
child_few p name most h = let l = ap length (path_text-child p name) ∙ length-append (spelled p) (47 ∷ name) in omega arith

-- the text that is made has no fault, and the child's names
pub child_faultless : (p : Path) (name : Name) (items : List ℕ) (u : Unit {0}) → IsPath p → checked (child_fault p name) ≡ Ok u → items ≡ spelled p ++ 47 ∷ name → path_fault items ≡ None
child_faultless p name items u h e is = ap path_fault (is ∙ sym (path_text-child p name)) ∙ path_fault-path_text (p ++ name ∷ []) (child_is p name u h e)

pub child_names : (p : Path) (name : Name) (items : List ℕ) (u : Unit {0}) → IsPath p → checked (child_fault p name) ≡ Ok u → items ≡ spelled p ++ 47 ∷ name → names_in items ≡ p ++ name ∷ []
child_names p name items u h e is = ap names_in (is ∙ sym (path_text-child p name)) ∙ names_in-path_text (p ++ name ∷ []) (child_is p name u h e)

-- where the tests pass, the answer is the path itself
pub answers_path : (fault : Option grammar.PathFault) (path p : Path) (u : Unit {0}) → checked fault ≡ Ok u → p ≡ path → FollowsGrammar (Ok p) (unless fault path)
answers_path None path p u e is = is
answers_path (Some fault) path p u e is = cc
