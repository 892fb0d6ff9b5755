-- The rows of groups, in which their processes are.
use Rattle.std.proofs.Common.{◌≡◌, ℕ, suc, Bool, true, false, cond, eqb, List, [], ◌∷◌, filter, Some, IsSome, refl, sym, ap, ◌∙◌, subst, arith}
use Rattle.std.proofs.lemmas.Bool.{false≢true, eqb-true, eq-eqb}
use Rattle.std.proofs.lemmas.List.Elements.{All-head, All-tail}
use Rattle.std.specs.declared.cmp.Ordering.TheVariants.{Less, Equal, Greater}
use Rattle.std.specs.Ordering.{nat_cmp, is_eq}
use Rattle.std.specs.List.{All}
use Rattle.std.specs.Map.{values_of, keys_of, lookup}
use Rattle.std.specs.BTreeMap.{is_at}
use Rattle.std.specs.FinMap as fin
use Rattle.flat_model.specs.Path.{Path, same_path}
use Rattle.flat_model.proofs.PathLaws.{same_path_is}
use Rattle.group_tree.specs.Groups.{Groups}
use Rattle.process_table.specs.Chosen.{HaveOneHome}
use Rattle.process_table.specs.declared.process.Process.{Process}
use Rattle.pids_charge.specs.Lists.{Row, slot_at, row_at}
use Rattle.pids_charge.specs.Recount.{HasSlots, IsPlaced}

-- a group with the same slot
pub row_at_same : (a b : Groups) (p : Path) → slot_at a p ≡ slot_at b p → row_at a p ≡ row_at b p
row_at_same a b [] e = refl
row_at_same a b (n ∷ p) e = ap suc e

-- one of the values by its key
pub found_value : {X : Type 0} (P : X → Type 0) (test : ℕ → Bool) (es : List (ℕ × X)) (x : X) → All P (values_of es) → lookup test es ≡ Some x → P x
found_value P test [] x h e = cc
found_value P test (e ∷ es) x h is =
    elim (test e.0) as (λ b. cond b (Some e.1) (lookup test es) ≡ Some x → P x) [
      | true ↦ λ i. let same : e.1 ≡ x = cc in subst P same (All-head P e.1 (values_of es) h)
      | false ↦ λ i. found_value P test es x (All-tail P e.1 (values_of es) h) i
    ] is

-- one of the keys
pub found_key : {X : Type 0} (P : ℕ → Type 0) (q : ℕ) (es : List (ℕ × X)) → All P (keys_of es) → IsSome (lookup (is_at (nat_cmp q)) es) → P q
found_key P q [] h i = cc
found_key P q (e ∷ es) h i =
    elim (nat_cmp q e.0) as (λ o. nat_cmp q e.0 ≡ o → IsSome (cond (is_eq o) (Some e.1) (lookup (is_at (nat_cmp q)) es)) → P q) [
      | Less ↦ λ t j. found_key P q es (All-tail P e.0 (keys_of es) h) j
      | Equal ↦ λ t j. subst P (sym (fin.nat_cmp-IsAntisymmetric q e.0 t)) (All-head P e.0 (keys_of es) h)
      | Greater ↦ λ t j. found_key P q es (All-tail P e.0 (keys_of es) h) j
    ] refl i

module _ (slots : ℕ) (tree : Groups) (free : List ℕ) (h : HasSlots slots tree free) where
  apart : (p q : Path) → IsSome (fin.get tree p) → IsSome (fin.get tree q) → row_at tree p ≡ row_at tree q → p ≡ q
  apart [] [] i j e = refl
  apart [] (m ∷ q) i j e = absurd (omega (arith, e))
  apart (n ∷ p) [] i j e = absurd (omega (arith, e))
  apart (n ∷ p) (m ∷ q) i j e = h.apart (n ∷ p) (m ∷ q) (omega arith) (omega arith) i j (omega (arith, e))

  module _ {A : Type 0} (leaves : ℕ) where
    -- processes of one row are in one group
    pub one_home : (es : List (Row A)) → All (λ p. IsPlaced leaves tree p) (values_of es) → HaveOneHome (λ q. lookup (is_at (nat_cmp q)) es)
    one_home es placed p q x y found found2 same =
        let a = found_value (λ p. IsPlaced leaves tree p) (is_at (nat_cmp p)) es x placed found in
        let b = found_value (λ p. IsPlaced leaves tree p) (is_at (nat_cmp q)) es y placed found2 in
        apart x.home y.home a.home b.home (sym a.row ∙ same ∙ b.row)

    -- a process is in the row of a group exactly if it is in the group
    by_row : (g : Path) → IsSome (fin.get tree g) → (x : Process A) → IsPlaced leaves tree x → (b : Bool) → eqb x.row (row_at tree g) ≡ b → b ≡ same_path x.home g
    by_row g there x i true e = sym ((same_path_is x.home g).1 (apart x.home g i.home there (sym i.row ∙ eqb-true x.row (row_at tree g) e)))
    by_row g there x i false e = other (same_path x.home g) refl
      where
        other : (b : Bool) → same_path x.home g ≡ b → false ≡ b
        other true t = absurd (false≢true (sym e ∙ eq-eqb x.row (row_at tree g) (i.row ∙ ap (row_at tree) ((same_path_is x.home g).0 t))))
        other false t = refl

    -- the processes of that row are those of the group
    pub members_by_row : (g : Path) → IsSome (fin.get tree g) → (es : List (Row A)) → All (λ p. IsPlaced leaves tree p) (values_of es)
        → filter (λ e. eqb e.1.row (row_at tree g)) es ≡ filter (λ e. same_path e.1.home g) es
    members_by_row g there [] placed = refl
    members_by_row g there (e ∷ es) placed =
        let first = by_row g there e.1 (All-head (λ p. IsPlaced leaves tree p) e.1 (values_of es) placed) (eqb e.1.row (row_at tree g)) refl in
        rw (first, members_by_row g there es (All-tail (λ p. IsPlaced leaves tree p) e.1 (values_of es) placed)) refl
