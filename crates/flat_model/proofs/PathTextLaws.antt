-- A text that has no fault is the text of a path of the grammar, and that text has none.
use Rattle.std.proofs.Common.{◌≡◌, ℕ, ◌+◌, ◌≤◌, Bool, true, false, cond, not, suc, ◌==◌, nat_lt, List, [], ◌∷◌, ◌++◌, length, refl, ap, sym, ◌∙◌, arith, subst, Option, Some, None, option_map, Ok}
use Rattle.std.specs.Cmp.{second_so}
use Rattle.std.specs.List.{position_from, AllByRecursion, slice_split, onto_first}
use Rattle.std.specs.Option.{option_or}
use Rattle.std.proofs.lemmas.Bool.Decides.{nat_tests}
use Rattle.std.proofs.Common.{ltb-false, le-ltb}
use Rattle.std.proofs.lemmas.Bool.{not-false, not-true}
use Rattle.flat_model.specs.Path.{Name, Path}
use Rattle.flat_model.specs.PathText.{is_slash, spelled, path_text, is_name_byte, is_bad_byte, is_dots, is_reserved, name_max, depth_max}
use Rattle.flat_model.specs.PathText.{text_max, IsName, IsPath, PathFault, NotRooted, EmptyName, BadByte, DotName, Reserved, NameTooLong}
use Rattle.flat_model.specs.PathText.{TooDeep, TooLong, name_fault, names_fault, is_rooted, names_in, path_fault, read_path}
use Rattle.flat_model.specs.Refuse.{refuse, unless}

-- ---- tests in their order

-- nothing is refused: the test fails, and so does what follows
pub refuse_none : {R : Type 0} (t : Bool) (r : R) (rest : Option R) → refuse t r rest ≡ None → (t ≡ false) × (rest ≡ None)
refuse_none true r rest e = cc
refuse_none false r rest e = (refl, e)

-- a test that fails refuses nothing
pub refuse_passed : {R : Type 0} (t : Bool) (r : R) (rest : Option R) → t ≡ false → refuse t r rest ≡ rest
refuse_passed t r rest e = ap (λ b. refuse b r rest) e

-- of two faults in turn there is none where there is neither
pub option_or_none : {R : Type 0} (o rest : Option R) → option_or o rest ≡ None → (o ≡ None) × (rest ≡ None)
option_or_none None rest e = (refl, e)
option_or_none (Some r) rest e = cc

pub option_or_passed : {R : Type 0} (o rest : Option R) → o ≡ None → option_or o rest ≡ rest
option_or_passed o rest e = ap (λ x. option_or x rest) e

-- a place is a fault
bad_none : (o : Option ℕ) → option_map BadByte o ≡ None → o ≡ None
bad_none None e = refl
bad_none (Some at) e = cc

-- an answer without fault is the value
pub unless_ok : {R X : Type 0} (o : Option R) (x y : X) → unless o x ≡ Ok y → (o ≡ None) × (x ≡ y)
unless_ok None x y e = (refl, cc)
unless_ok (Some r) x y e = cc

-- what the tests of numbers say

not_eq : (a b : ℕ) → (a == b) ≡ false → a ≤ b → a + 1 ≤ b
not_eq a b e h = grind (arith, nat_tests)

eq_no : (a b : ℕ) → a + 1 ≤ b → (a == b) ≡ false
eq_no a b h = grind (arith, nat_tests)

-- ---- a name

-- no bad byte is found: each is a name's
good_bytes : (here : ℕ) (name : Name) → position_from is_bad_byte here name ≡ None → AllByRecursion (λ b. is_name_byte b ≡ true) name
good_bytes here [] e = tt
good_bytes here (b ∷ name) e =
    let p = refuse_none (is_bad_byte b) here (position_from is_bad_byte (here + 1) name) e in
    (not-false (is_name_byte b) p.0, good_bytes (here + 1) name p.1)

-- where each byte is a name's none is found bad
no_bad : (here : ℕ) (name : Name) → AllByRecursion (λ b. is_name_byte b ≡ true) name → position_from is_bad_byte here name ≡ None
no_bad here [] h = refl
no_bad here (b ∷ name) h = ap (λ t. cond (not t) (Some here) (position_from is_bad_byte (here + 1) name)) h.0 ∙ no_bad (here + 1) name h.1

-- the tests of a name behind that of its bytes
abbrev last_tests : Name → Option PathFault
last_tests name = refuse (is_dots name) DotName (refuse (is_reserved name) Reserved None)

abbrev late_tests : Name → Option PathFault
late_tests name = refuse (nat_lt name_max (length name)) NameTooLong (last_tests name)

-- a name without fault is one of the grammar
pub sound_name : (here : ℕ) (name : Name) → name_fault here name ≡ None → IsName name
unfolding name_fault
sound_name here name e =
    let a = refuse_none (length name == 0) EmptyName (option_or (option_map BadByte (position_from is_bad_byte here name)) (late_tests name)) e in
    let b = option_or_none (option_map BadByte (position_from is_bad_byte here name)) (late_tests name) a.1 in
    let c = refuse_none (nat_lt name_max (length name)) NameTooLong (last_tests name) b.1 in
    let d = refuse_none (is_dots name) DotName (refuse (is_reserved name) Reserved None) c.1 in
    let f = refuse_none (is_reserved name) Reserved None d.1 in
    record { not_empty = a.0; bytes = good_bytes here name (bad_none (position_from is_bad_byte here name) b.0); short = ltb-false name_max (length name) c.0; no_dots = d.0; free = f.0 }

-- a name of the grammar has no fault
pub full_name : (here : ℕ) (name : Name) → IsName name → name_fault here name ≡ None
unfolding name_fault
full_name here name h =
    refuse_passed (length name == 0) EmptyName (option_or (option_map BadByte (position_from is_bad_byte here name)) (late_tests name)) h.not_empty
    ∙ option_or_passed (option_map BadByte (position_from is_bad_byte here name)) (late_tests name) (ap (option_map BadByte) (no_bad here name h.bytes))
    ∙ refuse_passed (nat_lt name_max (length name)) NameTooLong (last_tests name) (le-ltb name_max (length name) h.short)
    ∙ refuse_passed (is_dots name) DotName (refuse (is_reserved name) Reserved None) h.no_dots
    ∙ refuse_passed (is_reserved name) Reserved None h.free

-- ---- the names of a text

-- the same for the names of a text, each behind those before it
pub sound_names : (count here : ℕ) (names : List Name) → count ≤ depth_max → names_fault count here names ≡ None → AllByRecursion IsName names × (count + length names ≤ depth_max)
sound_names count here [] b e = (tt, omega arith)
sound_names count here (name ∷ names) b e =
    let a = refuse_none (count == depth_max) TooDeep (option_or (name_fault here name) (names_fault (count + 1) (here + (length name + 1)) names)) e in
    let c = option_or_none (name_fault here name) (names_fault (count + 1) (here + (length name + 1)) names) a.1 in
    let d = sound_names (count + 1) (here + (length name + 1)) names (not_eq count depth_max a.0 b) c.1 in
    ((sound_name here name c.0, d.0), let k = d.1 in omega arith)

pub full_names : (count here : ℕ) (names : List Name) → AllByRecursion IsName names → count + length names ≤ depth_max → names_fault count here names ≡ None
full_names count here [] h b = refl
full_names count here (name ∷ names) h b =
    let k : length (name ∷ names) ≡ suc (length names) = refl in
    refuse_passed (count == depth_max) TooDeep (option_or (name_fault here name) (names_fault (count + 1) (here + (length name + 1)) names)) (eq_no count depth_max (omega arith))
    ∙ option_or_passed (name_fault here name) (names_fault (count + 1) (here + (length name + 1)) names) (full_name here name h.0)
    ∙ full_names (count + 1) (here + (length name + 1)) names h.1 (omega arith)

-- ---- a text as its names

-- a slash is one byte
slash_is : (b : ℕ) → is_slash b ≡ true → b ≡ 47
slash_is b e = grind (arith, nat_tests)

-- a byte put before the first part stands behind the first slash
spelled_onto : (b : ℕ) (parts : List Name) (xs : List ℕ) → spelled parts ≡ 47 ∷ xs → spelled (onto_first b parts) ≡ 47 ∷ b ∷ xs
spelled_onto b [] xs e = cc
spelled_onto b (part ∷ parts) xs e = cc

-- one byte more: a slash begins a part, another byte goes onto the first
glued_by : (b : ℕ) (xs : List ℕ) (t : Bool) → is_slash b ≡ t → spelled (slice_split is_slash xs) ≡ 47 ∷ xs
    → spelled (cond t ([] ∷ slice_split is_slash xs) (onto_first b (slice_split is_slash xs))) ≡ 47 ∷ b ∷ xs
glued_by b xs true e h = ap (λ (x : List ℕ). 47 ∷ x) h ∙ ap (λ (x : ℕ). 47 ∷ x ∷ xs) (sym (slash_is b e))
glued_by b xs false e h = spelled_onto b (slice_split is_slash xs) xs h

-- what is cut at the slashes is glued by slashes
pub glued : (xs : List ℕ) → spelled (slice_split is_slash xs) ≡ 47 ∷ xs
glued [] = refl
glued (b ∷ xs) = glued_by b xs (is_slash b) refl (glued xs)

-- no byte is a slash
abbrev pub NoSlash : Name → Type 0
NoSlash name = AllByRecursion (λ b. is_slash b ≡ false) name

-- names of the grammar have no slash
clean : (name : Name) → AllByRecursion (λ b. is_name_byte b ≡ true) name → NoSlash name
clean [] h = tt
clean (b ∷ name) h = (not-true (is_slash b) (second_so _ (not (is_slash b)) h.0), clean name h.1)

pub cleans : (names : List Name) → AllByRecursion IsName names → AllByRecursion NoSlash names
cleans [] h = tt
cleans (n ∷ names) h = (clean n h.0.bytes, cleans names h.1)

-- a name without slashes is cut off whole at the slash behind it
split_name : (n : Name) (rest : List ℕ) (parts : List Name) → NoSlash n → slice_split is_slash rest ≡ [] ∷ parts → slice_split is_slash (n ++ rest) ≡ n ∷ parts
split_name [] rest parts h k = k
split_name (b ∷ n) rest parts h k =
    ap (λ t. cond t ([] ∷ slice_split is_slash (n ++ rest)) (onto_first b (slice_split is_slash (n ++ rest)))) h.0
    ∙ ap (onto_first b) (split_name n rest parts h.1 k)

-- names without slashes are what their text is cut into, behind an empty part
pub split_spelled : (names : List Name) → AllByRecursion NoSlash names → slice_split is_slash (spelled names) ≡ [] ∷ names
split_spelled [] h = refl
split_spelled (n ∷ names) h = ap (λ (x : List Name). [] ∷ x) (split_name n (spelled names) names h.0 (split_spelled names h.1))

-- a name with bytes follows the first slash, so the text is cut behind that slash
names_in_text : (n : Name) (names : List Name) → (length n == 0) ≡ false → NoSlash n → AllByRecursion NoSlash names → names_in (path_text (n ∷ names)) ≡ n ∷ names
names_in_text [] names e h k = cc
names_in_text (b ∷ n) names e h k = split_name (b ∷ n) (spelled names) names h (split_spelled names k)

-- the names of a path's text are the path
pub names_in-path_text : (p : Path) → IsPath p → names_in (path_text p) ≡ p
names_in-path_text [] h = refl
names_in-path_text (n ∷ names) h =
    let c = cleans (n ∷ names) h.all_names in
    names_in_text n names h.all_names.0.not_empty c.0 c.1

-- a path with names has the text that spells them
path_text_spelled : (names : List Name) (b : ℕ) (xs : List ℕ) → spelled names ≡ b ∷ xs → path_text names ≡ spelled names
path_text_spelled [] b xs e = cc
path_text_spelled (n ∷ names) b xs e = refl

-- ---- a text has no fault exactly where it is a path's

pub record Sound (text : List ℕ) : Type 0 where
  pub text_is : text ≡ path_text (names_in text)
  pub path : IsPath (names_in text)

-- the three tests of a text in turn
sound_text : (text : List ℕ) → is_rooted text ≡ true → nat_lt text_max (length text) ≡ false → names_fault 0 1 (names_in text) ≡ None → Sound text
sound_text [] r s e = cc
sound_text (b ∷ []) r s e = record {
  text_is = ap (λ (x : ℕ). x ∷ []) (slash_is b r);
  path = record { all_names = tt; shallow = omega arith; short = omega arith };
}
sound_text (b ∷ c ∷ bs) r s e =
    let whole = glued (c ∷ bs) in
    let names = sound_names 0 1 (slice_split is_slash (c ∷ bs)) (omega arith) e in
    let is : b ∷ c ∷ bs ≡ path_text (slice_split is_slash (c ∷ bs)) =
    ap (λ (x : ℕ). x ∷ c ∷ bs) (slash_is b r) ∙ sym (path_text_spelled (slice_split is_slash (c ∷ bs)) 47 (c ∷ bs) whole ∙ whole) in
    record {
      text_is = is;
      path = record { all_names = names.0; shallow = let k = names.1 in omega arith; short = subst (λ (x : List ℕ). length x ≤ text_max) is (ltb-false text_max (length (b ∷ c ∷ bs)) s) };
    }

-- a text without fault is the text of a path of the grammar
pub sound : (text : List ℕ) → path_fault text ≡ None → Sound text
unfolding path_fault
sound text e =
    let a = refuse_none (not (is_rooted text)) NotRooted (refuse (nat_lt text_max (length text)) TooLong (names_fault 0 1 (names_in text))) e in
    let b = refuse_none (nat_lt text_max (length text)) TooLong (names_fault 0 1 (names_in text)) a.1 in
    sound_text text (not-false (is_rooted text) a.0) b.0 b.1

-- the text of a path begins with a slash
rooted_text : (p : Path) → is_rooted (path_text p) ≡ true
rooted_text [] = refl
rooted_text (n ∷ names) = refl

-- the text of a path has no fault
pub path_fault-path_text : (p : Path) → IsPath p → path_fault (path_text p) ≡ None
unfolding path_fault
path_fault-path_text p h =
    refuse_passed (not (is_rooted (path_text p))) NotRooted (refuse (nat_lt text_max (length (path_text p))) TooLong (names_fault 0 1 (names_in (path_text p)))) (ap not (rooted_text p))
    ∙ refuse_passed (nat_lt text_max (length (path_text p))) TooLong (names_fault 0 1 (names_in (path_text p))) (le-ltb text_max (length (path_text p)) h.short)
    ∙ ap (names_fault 0 1) (names_in-path_text p h)
    ∙ full_names 0 1 p h.all_names (let k = h.shallow in omega arith)

-- what is read from the text of a path is that path
pub read_path-path_text : (p : Path) → IsPath p → read_path (path_text p) ≡ Ok p
read_path-path_text p h = ap (λ o. unless o (names_in (path_text p))) (path_fault-path_text p h) ∙ ap (λ (q : Path). Ok q) (names_in-path_text p h)

-- what is read is a path, and the text is its own
pub read_path_is : (t : List ℕ) (p : Path) → read_path t ≡ Ok p → IsPath p × (t ≡ path_text p)
read_path_is t p e =
    let u = unless_ok (path_fault t) (names_in t) p e in
    let s = sound t u.0 in
    (subst IsPath u.1 s.path, s.text_is ∙ ap path_text u.1)

-- two paths of the grammar with one text are one
pub path_text_apart : (p q : Path) → IsPath p → IsPath q → path_text p ≡ path_text q → p ≡ q
path_text_apart p q h k e = sym (names_in-path_text p h) ∙ ap names_in e ∙ names_in-path_text q k
