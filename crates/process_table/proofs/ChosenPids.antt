-- The pids of chosen rows are the chosen pids.
use Rattle.std.proofs.Common.{◌≡◌, ◌≢◌, ℕ, ◌+◌, ◌<◌, ◌≤◌, Bool, true, false, cond, eqb, ltb, Option, Some, None, List, [], length, count_by, refl, sym, ap, ◌∙◌, subst, arith}
use Rattle.std.proofs.lemmas.Bool.{eqb-true, eqb-false, lt-ltb, le-ltb, ltb-true, ltb-false}
use Rattle.std.proofs.lemmas.List.{get_or_past}
use Rattle.flat_model.specs.Path.{Path, at_or_below}
use Rattle.process_table.specs.declared.process.Cell.{Cell}
use Rattle.process_table.specs.declared.process.Process.{Process}
use Rattle.process_table.specs.Chosen.{HaveOneHome, chosen_at, chosen_below, member_at}
use Rattle.process_table.specs.Members.{list_at, IsAt}
use Rattle.process_table.specs.Rows.{process_of}
use Rattle.process_table.specs.Tied.{in_row, IsTied}
use Rattle.process_table.proofs.RowLaws.{counted}
use Rattle.process_table.proofs.CellTies.{count-at, its_row, one_if, same_either_way}

-- a row more
one_more : (a n t : ℕ) → cond (ltb a (n + 1)) t 0 ≡ cond (ltb a n) t 0 + cond (eqb a n) t 0
one_more a n t =
    let choose : Bool → ℕ = λ b. cond b t 0 in
    elim (eqb a n) as (λ b. eqb a n ≡ b → choose (ltb a (n + 1)) ≡ choose (ltb a n) + choose (eqb a n)) [
      | true ↦ λ e. let same : a ≡ n = eqb-true a n e in omega (arith, ap choose (lt-ltb a (n + 1) (omega arith)), ap choose (le-ltb a n (omega arith)), ap choose e)
      | false ↦ λ e.
          let ne : a ≢ n = eqb-false a n e in
          elim (ltb a n) as (λ b. ltb a n ≡ b → choose (ltb a (n + 1)) ≡ choose (ltb a n) + choose (eqb a n)) [
            | true ↦ λ f. let lt : a < n = ltb-true a n f in omega (arith, ap choose (lt-ltb a (n + 1) (omega arith)), ap choose f, ap choose e)
            | false ↦ λ f. let ge : n ≤ a = ltb-false a n f in omega (arith, ap choose (le-ltb a (n + 1) (omega arith)), ap choose f, ap choose e)
          ] refl
    ] refl

module _ {A : Type 0} where
  pub chosen_start : (g : Path) (o : Option (Process A)) → chosen_below 0 g o ≡ 0
  chosen_start g None = refl
  chosen_start g (Some x) = let choose : Bool → ℕ = λ b. cond b (cond (at_or_below x.home g) 1 0) 0 in ap choose (le-ltb x.row 0 (omega arith))

  pub chosen_more : (n : ℕ) (g : Path) (o : Option (Process A)) → chosen_below (n + 1) g o ≡ chosen_below n g o + chosen_at n g o
  chosen_more n g None = omega arith
  chosen_more n g (Some x) = one_more x.row n (cond (at_or_below x.home g) 1 0)

  -- the cell of a process
  its_cell : (o : Option (Cell A)) (x : Process A) → process_of o ≡ Some x → (c : Cell A) × (o ≡ Some c) × (c.process ≡ x)
  its_cell None x e = cc
  its_cell (Some c) x e = (c, refl, cc)

  module _ (cells : ℕ → Option (Cell A)) (lists : List (List ℕ)) (t : IsTied cells lists) where
    -- a process is in the list of its row
    listed : (q : ℕ) (x : Process A) → process_of (cells q) ≡ Some x → 0 < length (list_at lists x.row)
    listed q x is =
        let cell = its_cell (cells q) x is in
        let at = t.placed q cell.0 cell.1 in
        subst (λ (x : Process A). 0 < length (list_at lists x.row)) cell.2 (omega (arith, at.within))

    pub no_members : (row : ℕ) → length (list_at lists row) ≤ 0 → (q : ℕ) (x : Process A) → process_of (cells q) ≡ Some x → x.row ≡ row → ⊥
    no_members row none q x is same = let some : 0 < length (list_at lists row) = subst (λ s. 0 < length (list_at lists s)) same (listed q x is) in omega (arith, none)

    pub has_cell : (row place p : ℕ) → IsAt (list_at lists row) place p → cells p ≡ None → ⊥
    has_cell row place p at none = let some = count-at (list_at lists row) place p at in omega (arith, some, t.counted row p, ap (in_row row) none)

    pub in_its_row : (row place p : ℕ) (c : Cell A) → IsAt (list_at lists row) place p → cells p ≡ Some c → c.process.row ≡ row
    in_its_row row place p c at is = its_row row c (subst (λ n. 0 < n) (t.counted row p ∙ ap (in_row row) is) (count-at (list_at lists row) place p at))

    -- the first process of a row answers for all
    pub answers : (row p : ℕ) (c : Cell A) (g : Path) → HaveOneHome (λ q. process_of (cells q)) → IsAt (list_at lists row) 0 p
        → cells p ≡ Some c → (q : ℕ) (x : Process A) → process_of (cells q) ≡ Some x → x.row ≡ row
        → at_or_below c.process.home g ≡ at_or_below x.home g
    answers row p c g homes at is q x there same = ap (λ h. at_or_below h g) (homes p q c.process x (ap process_of is) there (in_its_row row 0 p c at is ∙ sym same))

    module _ (row : ℕ) (g : Path) (b : Bool) (says : (q : ℕ) (x : Process A) → process_of (cells q) ≡ Some x → x.row ≡ row → b ≡ at_or_below x.home g) where
      by_cell : (q : ℕ) (o : Option (Cell A)) → cells q ≡ o → cond b (in_row row o) 0 ≡ chosen_at row g (process_of o)
      by_cell q None is = same_either_way b 0
      by_cell q (Some c) is =
          elim (eqb c.process.row row) as (λ e. eqb c.process.row row ≡ e → cond b (one_if e) 0 ≡ cond e (one_if (at_or_below c.process.home g)) 0) [
            | true ↦ λ e. ap one_if (says q c.process (ap process_of is) (eqb-true c.process.row row e))
            | false ↦ λ e. same_either_way b 0
          ] refl

      pub appended : (q : ℕ) → cond b (count_by (eqb q) (list_at lists row)) 0 ≡ chosen_at row g (process_of (cells q))
      appended q = ap (λ n. cond b n 0) (t.counted row q) ∙ by_cell q (cells q) refl

    -- all rows are listed
    row_listed : (s : ℕ) → 0 < length (list_at lists s) → s < length lists
    row_listed s h =
        elim (ltb s (length lists)) as (λ b. ltb s (length lists) ≡ b → s < length lists) [
          | true ↦ λ e. ltb-true s (length lists) e
          | false ↦ λ e. let none = ap length (get_or_past lists s [] (ltb-false s (length lists) e)) in absurd (omega (arith, h, none))
        ] refl

    chosen_all : (g : Path) (q : ℕ) (o : Option (Process A)) → process_of (cells q) ≡ o → chosen_below (length lists) g o ≡ counted (λ e. at_or_below e.1.home g) q o
    chosen_all g q None is = refl
    chosen_all g q (Some x) is = ap (λ b. cond b (cond (at_or_below x.home g) 1 0) 0) (lt-ltb x.row (length lists) (row_listed x.row (listed q x is)))

    pub chosen_is : (g : Path) (q : ℕ) → chosen_below (length lists) g (process_of (cells q)) ≡ counted (λ e. at_or_below e.1.home g) q (process_of (cells q))
    chosen_is g q = chosen_all g q (process_of (cells q)) refl

  -- the members of a row
  pub member_counted : (s q : ℕ) (o : Option (Cell A)) → in_row s o ≡ counted (λ e. eqb e.1.row s) q (process_of o)
  member_counted s q None = refl
  member_counted s q (Some c) = refl

  pub in_row_is : (s : ℕ) (o : Option (Cell A)) → in_row s o ≡ member_at s (process_of o)
  in_row_is s None = refl
  in_row_is s (Some c) = refl
