-- The first fault of a text, by what the calls on paths return.
use Rattle.std.proofs.Common.{◌≡◌, ℕ, ◌≤◌, true, false, not, nat_eq, nat_lt, List, [], ◌∷◌, length, refl, ap, ◌∙◌, arith, subst, Option, Some, None, Ok, Err, is_some, length-append}
use Rattle.std.specs.Option.{option_or, option_and_then}
use Rattle.std.proofs.lemmas.Bool.Decides.{nat_tests}
use Rattle.flat_model.specs.Path.{Name, Path}
use Rattle.flat_model.specs.PathText as grammar
use Rattle.flat_model.specs.PathText.{is_slash, is_bad_byte, depth_max, text_max, spelled, path_text, name_fault, child_fault, child_path, IsName}
use Rattle.flat_model.specs.Refuse.{refuse, unless}
use Rattle.flat_model.proofs.PathTextLaws.{sound_name}
use Rattle.group_path.specs.FollowsGrammar.{fault_of, FollowsGrammar}
use Rattle.group_path.specs.declared.fault.PathFault.{PathFault}
use Rattle.line_engine.specs.PathFaults.{number_of, found}

-- ---- a fault of the text has a number

numbered : (f : grammar.PathFault) → not (nat_eq (number_of (fault_of f)) 0) ≡ true
numbered grammar.NotRooted = refl
numbered grammar.EmptyName = refl
numbered (grammar.BadByte at) = refl
numbered grammar.DotName = refl
numbered grammar.Reserved = refl
numbered grammar.NameTooLong = refl
numbered grammar.TooDeep = refl
numbered grammar.TooLong = refl

-- ---- a child of the root is refused for its name

few : (name : Name) → name_fault 0 name ≡ None → nat_lt text_max (length (path_text (name ∷ []))) ≡ false
few name e =
    let s = (sound_name 0 name e).short in
    let l = length-append name [] in
    let n : length (path_text (name ∷ [])) ≤ text_max = omega arith in
    grind (arith, nat_tests)

root_child : (o : Option grammar.PathFault) (name : Name) → name_fault 0 name ≡ o → child_fault [] name ≡ o
unfolding child_fault
root_child None name e =
    ap (λ f. option_or f (refuse (nat_lt text_max (length (path_text (name ∷ [])))) grammar.TooLong None)) e
    ∙ ap (λ b. refuse b grammar.TooLong None) (few name e)
root_child (Some fault) name e = ap (λ f. option_or f (refuse (nat_lt text_max (length (path_text (name ∷ [])))) grammar.TooLong None)) e

ok_of : (o : Option grammar.PathFault) (path p : Path) → FollowsGrammar (Ok p) (unless o path) → false ≡ is_some o
ok_of None path p h = refl
ok_of (Some fault) path p h = cc

err_of : (o : Option grammar.PathFault) (path : Path) (e : PathFault) → FollowsGrammar (Err e) (unless o path) → not (nat_eq (number_of e) 0) ≡ is_some o
err_of None path e h = ap (λ x. not (nat_eq (number_of x) 0)) h
err_of (Some fault) path e h = let k : e ≡ fault_of fault = cc in ap (λ x. not (nat_eq (number_of x) 0)) k ∙ numbered fault

pub faultless_child : (root : Path) (name : Name) (p : Path) → root ≡ [] → FollowsGrammar (Ok p) (child_path root name) → false ≡ is_some (name_fault 0 name)
faultless_child root name p e h =
    let k = subst (λ (r : Path). FollowsGrammar (Ok p) (child_path r name)) e h in
    ok_of (name_fault 0 name) (name ∷ []) p
    (subst (λ (o : Option grammar.PathFault). FollowsGrammar (Ok p) (unless o (name ∷ []))) (root_child (name_fault 0 name) name refl) k)

pub faulty_child : (root : Path) (name : Name) (fault : PathFault) (n : ℕ) → root ≡ [] → FollowsGrammar (Err fault) (child_path root name)
    → n ≡ number_of fault → not (nat_eq n 0) ≡ is_some (name_fault 0 name)
faulty_child root name fault n e h is =
    let k = subst (λ (r : Path). FollowsGrammar (Err fault) (child_path r name)) e h in
    ap (λ m. not (nat_eq m 0)) is
    ∙ err_of (name_fault 0 name) (name ∷ []) fault
    (subst (λ (o : Option grammar.PathFault). FollowsGrammar (Err fault) (unless o (name ∷ []))) (root_child (name_fault 0 name) name refl) k)

-- ---- what is said of a text

pub faultless : (o : Option grammar.PathFault) (path p : Path) (text : List ℕ) → FollowsGrammar (Ok p) (unless o path) → None ≡ option_and_then (λ fault. found text (fault_of fault)) o
faultless None path p text h = refl
faultless (Some fault) path p text h = cc

pub faulty : (o : Option grammar.PathFault) (path : Path) (e : PathFault) (text : List ℕ) → FollowsGrammar (Err e) (unless o path) → found text e ≡ option_and_then (λ fault. found text (fault_of fault)) o
faulty None path e text h = ap (found text) h
faulty (Some fault) path e text h = let k : e ≡ fault_of fault = cc in ap (found text) k
