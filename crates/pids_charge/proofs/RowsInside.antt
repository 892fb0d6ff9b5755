-- The pids in the rows of the groups at or below one.
use Rattle.std.proofs.Common.{◌≡◌, ℕ, ◌+◌, ◌<◌, Bool, true, false, cond, eqb, Option, Some, None, IsSome, List, [], ◌∷◌, length, count_by, refl, sym, ap, ◌∙◌, arith}
use Rattle.std.proofs.lemmas.Bool.{eqb-true, eq-eqb, lt-ltb}
use Rattle.std.specs.BTreeMap.{is_at}
use Rattle.std.specs.FinMap as fin
use Rattle.std.specs.List.{All}
use Rattle.std.specs.Map.{lookup, values_of}
use Rattle.std.specs.Ordering.{nat_cmp}
use Rattle.flat_model.specs.Path.{Path, at_or_below}
use Rattle.group_tree.specs.Groups.{Groups}
use Rattle.process_table.specs.Chosen.{chosen_at, chosen_below, member_at}
use Rattle.process_table.specs.declared.process.Process.{Process}
use Rattle.process_table.proofs.CellTies.{same_either_way}
use Rattle.process_table.proofs.RowLaws.{count-same, counted}
use Rattle.pids_charge.specs.GroupRows.{IsOfGroup}
use Rattle.pids_charge.specs.Lists.{Row, is_inside, row_at}
use Rattle.pids_charge.specs.Recount.{IsPlaced, SlotsBelow}
use Rattle.pids_charge.proofs.RowsAt.{found_value}

-- a group's row is at most its slot and one
pub row_below : (slots : ℕ) (tree : Groups) → SlotsBelow slots tree → (p : Path) → IsSome (fin.get tree p) → row_at tree p < slots + 1
row_below slots tree below [] i = omega arith
row_below slots tree below (n ∷ p) i = let low = below (n ∷ p) (omega arith) i in omega (arith, low)

module _ {A : Type 0} (leaves : ℕ) (tree : Groups) (es : List (Row A)) (placed : All (λ x. IsPlaced leaves tree x) (values_of es)) where
  abbrev process : ℕ → Option (Process A)
  process q = lookup (is_at (nat_cmp q)) es

  its_place : (q : ℕ) (x : Process A) → process q ≡ Some x → IsPlaced leaves tree x
  its_place q x e = found_value (λ x. IsPlaced leaves tree x) (is_at (nat_cmp q)) es x placed e

  module _ (at : ℕ) (own : List ℕ) (has : (q : ℕ) → count_by (eqb q) own ≡ member_at at (process q)) where
    of_first : (q : ℕ) → 0 < count_by (eqb q) own → (o : Option (Process A)) → process q ≡ o → IsOfGroup tree at
    of_first q some None e = absurd (omega (arith, some, has q, ap (member_at at) e))
    of_first q some (Some x) e = elim (eqb x.row at) as (λ b. eqb x.row at ≡ b → IsOfGroup tree at) [
      | true ↦ λ t. let i = its_place q x e in record { path = x.home; there = i.home; here = sym (eqb-true x.row at t) ∙ i.row }
      | false ↦ λ t. absurd (omega (arith, some, has q ∙ ap (member_at at) e ∙ ap (λ b. cond b 1 0) t))
    ] refl

    -- a row that has pids is that of a group
    pub of_pids : 0 < length own → IsOfGroup tree at
    of_pids long = by own refl
      where
        by : (qs : List ℕ) → own ≡ qs → IsOfGroup tree at
        by [] e = absurd (omega (arith, long, ap length e))
        by (q ∷ qs) e =
            let one = count-same q q qs (eq-eqb q q refl) in
            of_first q (omega (arith, one, ap (count_by (eqb q)) e)) (process q) refl

    module _ (p : Path) where
      -- an empty row has none
      pub none_in : length own ≡ 0 → (q : ℕ) → chosen_at at p (process q) ≡ 0
      none_in short q = by (process q) refl
        where
          nothing : (qs : List ℕ) → length qs ≡ 0 → count_by (eqb q) qs ≡ 0
          nothing [] e = refl
          nothing (k ∷ qs) e = absurd (omega (arith, e))

          by : (o : Option (Process A)) → process q ≡ o → chosen_at at p o ≡ 0
          by None e = refl
          by (Some x) e = elim (eqb x.row at) as (λ b. eqb x.row at ≡ b → ◌≡◌ {A = ℕ} (cond b (cond (at_or_below x.home p) 1 0) 0) 0) [
            | true ↦ λ t. absurd (omega (arith, nothing own short, has q ∙ ap (member_at at) e ∙ ap (λ b. cond b 1 0) t))
            | false ↦ λ t. refl
          ] refl

      -- all of a row, or none
      pub chosen_in : (b : Bool) → ((r : Path) → IsSome (fin.get tree r) → at ≡ row_at tree r → b ≡ at_or_below r p) → (q : ℕ) → cond b (count_by (eqb q) own) 0 ≡ chosen_at at p (process q)
      chosen_in b says q = ap (λ n. cond b n 0) (has q) ∙ by (process q) refl
        where
          by : (o : Option (Process A)) → process q ≡ o → cond b (member_at at o) 0 ≡ chosen_at at p o
          by None e = same_either_way b 0
          by (Some x) e = elim (eqb x.row at) as (λ c. eqb x.row at ≡ c → ◌≡◌ {A = ℕ} (cond b (cond c 1 0) 0) (cond c (cond (at_or_below x.home p) 1 0) 0)) [
            | true ↦ λ t. let i = its_place q x e in ap (λ c. cond c 1 0) (says x.home i.home (sym (eqb-true x.row at t) ∙ i.row))
            | false ↦ λ t. same_either_way b 0
          ] refl

  -- all rows have all of them
  pub chosen_all : (n : ℕ) → ((r : Path) → IsSome (fin.get tree r) → row_at tree r < n) → (p : Path) (q : ℕ) → chosen_below n p (process q) ≡ counted (is_inside p) q (process q)
  chosen_all n low p q = by (process q) refl
    where
      by : (o : Option (Process A)) → process q ≡ o → chosen_below n p o ≡ counted (is_inside p) q o
      by None e = refl
      by (Some x) e =
          let i = its_place q x e in
          let lt : x.row < n = omega (arith, i.row, low x.home i.home) in
          ap (λ b. cond b (cond (at_or_below x.home p) 1 0) 0) (lt-ltb x.row n lt)
