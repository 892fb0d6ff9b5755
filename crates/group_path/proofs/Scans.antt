-- The scan of the names of a text, of which it looks at one more than a path may have.
use Rattle.std.proofs.Common.{◌≡◌, ℕ, ◌+◌, ◌≤◌, Bool, true, ◌==◌, ◌||◌, List, [], ◌∷◌, length, take, zero, suc, codes, nat_eq, refl, ap, sym, ◌∙◌, arith, subst, Option, None}
use Rattle.std.specs.Cmp.Lexicographic.{pointwise, texts_ties}
use Rattle.std.specs.List.{slice_split}
use Rattle.std.specs.Option.{option_or}
use Rattle.std.proofs.lemmas.Bool.Decides.{nat_tests}
use Rattle.flat_model.specs.Path.{Name, same_name}
use Rattle.flat_model.specs.PathText.{is_slash, spelled, is_dots, depth_max, PathFault, TooDeep, name_fault, names_fault}
use Rattle.flat_model.specs.Refuse.{refuse}
use Rattle.flat_model.proofs.PathTextLaws.{glued}
use Rattle.flat_model.proofs.PathTextLawsChild.{length-spelled-take}

-- a test that holds leaves what follows unread
deep_by : (t : Bool) (f : PathFault) (r s : Option PathFault) → t ≡ true → refuse t f r ≡ refuse t f s
deep_by t f r s e = ap (λ b. refuse b f r) e ∙ sym (ap (λ b. refuse b f s) e)

-- what stands behind one name too many changes no answer
front_fault : (m count here : ℕ) (names : List Name) → count + m ≡ depth_max → names_fault count here names ≡ names_fault count here (take (suc m) names)
front_fault m count here [] e = refl
front_fault zero count here (n ∷ names) e =
    let t : (count == depth_max) ≡ true = grind (arith, nat_tests) in
    deep_by (count == depth_max) TooDeep (option_or (name_fault here n) (names_fault (count + 1) (here + (length n + 1)) names)) (option_or (name_fault here n) None) t
front_fault (suc m) count here (n ∷ names) e =
    let k : count + 1 + m ≡ depth_max = omega arith in
    ap (λ r. refuse (count == depth_max) TooDeep (option_or (name_fault here n) r)) (front_fault m (count + 1) (here + (length n + 1)) names k)

-- the fault of the names that are looked at, one more than there may be, is that of all
pub names_fault-front : (bytes : List ℕ) (names : List Name) → names ≡ take (suc depth_max) (slice_split is_slash bytes) → names_fault 0 1 (slice_split is_slash bytes) ≡ names_fault 0 1 names
names_fault-front bytes names e = front_fault depth_max 0 1 (slice_split is_slash bytes) refl ∙ ap (names_fault 0 1) (sym e)

-- what spells them is no longer than the text
pub spelled_front : (bytes : List ℕ) (names : List Name) → names ≡ take (suc depth_max) (slice_split is_slash bytes) → length (spelled names) ≤ length bytes + 1
spelled_front bytes names e =
    let k = length-spelled-take (suc depth_max) (slice_split is_slash bytes) in
    let whole = ap length (glued bytes) in
    subst (λ (x : List Name). length (spelled x) ≤ length bytes + 1) (sym e) (omega arith)

-- a test of the bytes is the model's test of names
same_bytes : (r : Bool) (name other text : List ℕ) → r ≡ pointwise nat_eq name other → other ≡ text → r ≡ same_name name text
same_bytes r name other text e is = e ∙ ap (pointwise nat_eq name) is ∙ texts_ties name text

-- the two tests of the code are those of the model
pub dots_by : (r s : Bool) (name one two : List ℕ) → r ≡ pointwise nat_eq name one → one ≡ codes "." → s ≡ pointwise nat_eq name two → two ≡ codes ".." → (r || s) ≡ is_dots name
dots_by r s name one two e f g h = λ i. same_bytes r name one (codes ".") e f i || same_bytes s name two (codes "..") g h i
