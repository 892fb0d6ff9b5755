-- The table that pages stand for, under a change.
use Rattle.std.proofs.Common.{◌≡◌, ℕ, zero, suc, ◌+◌, ◌^◌, ◌<◌, ◌≤◌, Bool, true, false, cond, eqb, Option, Some, None, IsSome, List, []}
use Rattle.std.proofs.Common.{◌∷◌, get_or, map, filter, count_by, refl, sym, ap, ◌∙◌, subst, arith}
use Rattle.std.specs.declared.cmp.Ordering.TheVariants.{Less}
use Rattle.std.specs.Ordering.{nat_cmp}
use Rattle.std.specs.List.{All, AllByRecursion}
use Rattle.std.proofs.lemmas.List.{get_or_default}
use Rattle.std.specs.List.Sorted.{IsStrictlySortedBy, IsPermutation, IsSorted}
use Rattle.std.specs.Map.{keys_of, lookup, remove_entry}
use Rattle.std.specs.BTreeMap.{is_at, insert_entry}
use Rattle.std.proofs.lemmas.Map.Keys.{non_decreasing_from_sorted}
use Rattle.process_table.specs.declared.process.Cell.{Cell}
use Rattle.process_table.specs.declared.process.Process.{Process}
use Rattle.process_table.specs.Cells.{cell_at}
use Rattle.process_table.specs.Chosen.{HaveOneHome}
use Rattle.process_table.specs.Members.{list_at, IsAt}
use Rattle.process_table.specs.Rows.{rows_from, pid_count, process_of, process_at, table_of}
use Rattle.process_table.specs.Tied.{in_row, IsTied}
use Rattle.process_table.proofs.RowLaws.{counted, alike, rows_ascend, rows_found, rows_counted, rows_put, rows_taken}
use Rattle.process_table.proofs.ChosenPids.{has_cell}
use Rattle.process_table.proofs.PageChanges.{no_page}
use Rattle.process_table.proofs.SameNumbers.{same_numbers, up_from_sort, count-IsPermutation}
use Rattle.process_table.proofs.CellTies.{written, unwritten}

pub small : (q : ℕ) → q < 2 ^ 32 → q < pid_count
unfolding pid_count
small q h = h

module _ {X : Type 0} where
  kept_after : (k : ℕ) (p : ℕ × X → Bool) (es : List (ℕ × X)) → AllByRecursion (λ y. nat_cmp k y ≡ Less) (keys_of es) → AllByRecursion (λ y. nat_cmp k y ≡ Less) (keys_of (filter p es))
  kept_after k p [] h = tt
  kept_after k p (e ∷ es) h =
      elim (p e) as (λ b. AllByRecursion (λ y. nat_cmp k y ≡ Less) (keys_of (cond b (e ∷ filter p es) (filter p es))))
      [ true ↦ (h.0, kept_after k p es h.1) | false ↦ kept_after k p es h.1 ]

  kept_order : (p : ℕ × X → Bool) (es : List (ℕ × X)) → IsStrictlySortedBy nat_cmp (keys_of es) → IsStrictlySortedBy nat_cmp (keys_of (filter p es))
  unfolding IsStrictlySortedBy
  kept_order p [] h = tt
  kept_order p (e ∷ es) h = elim (p e) as (λ b. IsStrictlySortedBy nat_cmp (keys_of (cond b (e ∷ filter p es) (filter p es))))
      [ true ↦ (kept_after e.0 p es h.0, kept_order p es h.1) | false ↦ kept_order p es h.1 ]

  pub no_rows : (f : ℕ → Option X) → ((q : ℕ) → f q ≡ None) → (k n : ℕ) → rows_from f k n ≡ []
  unfolding rows_from
  no_rows f h k zero = refl
  no_rows f h k (suc n) = rw (h k) (no_rows f h (suc k) n)

module _ {A : Type 0} where
  pub tied_alike : (cells same : ℕ → Option (Cell A)) (lists after : List (List ℕ)) → IsTied cells lists → ((q : ℕ) → same q ≡ cells q)
      → ((s : ℕ) → list_at after s ≡ list_at lists s) → IsTied same after
  tied_alike cells same lists after t h l = record {
    counted = λ s q. ap (count_by (eqb q)) (l s) ∙ t.counted s q ∙ sym (ap (in_row s) (h q));
    placed = λ q c is. subst (λ xs. IsAt xs c.place q) (sym (l c.process.row)) (t.placed q c (sym (h q) ∙ is));
    few = λ q le. h q ∙ t.few q le;
  }

  -- no pages, no lists
  pub empty_tied : (pages : List (List (Option (Cell A)))) (lists : List (List ℕ)) → pages ≡ [] → lists ≡ [] → IsTied (cell_at pages) lists
  empty_tied pages lists e f = subst (λ ps. IsTied (cell_at ps) lists) (sym e) (subst (IsTied (cell_at [])) (sym f) (record {
    counted = λ s q. sym (ap (in_row {A = A} s) (no_page [] q (omega arith)));
    placed = λ q c is. absurd (none q c is);
    few = λ q _. no_page [] q (omega arith);
  }))
    where
      none : (q : ℕ) (c : Cell A) → cell_at [] q ≡ Some c → ⊥
      none q c is = let gone : cell_at {X = Cell A} [] q ≡ None = no_page [] q (omega arith) in cc

  pub empty_table : (pages : List (List (Option (Cell A)))) → pages ≡ [] → table_of pages ≡ []
  empty_table pages e = no_rows (process_at pages) (λ q. ap (λ (ps : List (List (Option (Cell A)))). process_at ps q) e ∙ ap process_of (no_page [] q (omega arith))) 0 pid_count

  pub table_alike : (before after : List (List (Option (Cell A)))) → ((q : ℕ) → process_at after q ≡ process_at before q) → table_of after ≡ table_of before
  table_alike before after h = alike (process_at before) (process_at after) 0 pid_count h

  pub table_ascends : (pages : List (List (Option (Cell A)))) → IsStrictlySortedBy nat_cmp (keys_of (table_of pages))
  table_ascends pages = rows_ascend (process_at pages) 0 pid_count

  pub table_put : (before after : List (List (Option (Cell A)))) (pid : ℕ) (x : Process A) → pid < 2 ^ 32
      → ((q : ℕ) → process_at after q ≡ cond (eqb pid q) (Some x) (process_at before q))
      → table_of after ≡ insert_entry nat_cmp (table_of before) pid x
  table_put before after pid x h each =
      let lt = small pid h in
      rows_put (process_at before) (process_at after) pid x (written (process_at before) (process_at after) pid (Some x) each)
      (unwritten (process_at before) (process_at after) pid (Some x) each) 0 pid_count (omega arith) (omega (arith, lt))

  pub table_taken : (before after : List (List (Option (Cell A)))) (pid : ℕ)
      → ((q : ℕ) → process_at after q ≡ cond (eqb pid q) None (process_at before q))
      → table_of after ≡ remove_entry (is_at (nat_cmp pid)) (table_of before)
  table_taken before after pid each =
      rows_taken (process_at before) (process_at after) pid (written (process_at before) (process_at after) pid None each)
      (unwritten (process_at before) (process_at after) pid None each) 0 pid_count (omega arith)

  module _ (pages : List (List (Option (Cell A)))) (lists : List (List ℕ)) (t : IsTied (cell_at pages) lists) where
    past : (q : ℕ) → 0 + pid_count ≤ q → process_at pages q ≡ None
    past q h = ap process_of (t.few q (omega (arith, h)))

    pub table_found : (q : ℕ) → lookup (is_at (nat_cmp q)) (table_of pages) ≡ process_at pages q
    table_found q = rows_found (process_at pages) q 0 pid_count (omega arith) (past q)

    a_process : (q : ℕ) → (cell_at pages q ≡ None → ⊥) → (o : Option (Cell A)) → cell_at pages q ≡ o → IsSome (process_of o)
    a_process q h None e = absurd (h e)
    a_process q h (Some c) e = refl

    module _ (now : List (ℕ × Process A)) (view : table_of pages ≡ now) where
      pub get_is : (q : ℕ) → lookup (is_at (nat_cmp q)) now ≡ process_at pages q
      get_is q = ap (lookup (is_at (nat_cmp q))) (sym view) ∙ table_found q

      -- each pid of a row has a process
      in_list : (row : ℕ) → All (λ q. IsSome (lookup (is_at (nat_cmp q)) now)) (list_at lists row)
      in_list row = λ k d h.
          let q : ℕ = get_or (list_at lists row) k d in
          let at : IsAt (list_at lists row) k q = record { within = h; here = get_or_default (list_at lists row) k 0 d h } in
          subst IsSome (sym (get_is q)) (a_process q (has_cell (cell_at pages) lists t row k q at) (cell_at pages q) refl)

      pub each_found : (row : ℕ) (pids : List ℕ) → pids ≡ list_at lists row → All (λ q. IsSome (lookup (is_at (nat_cmp q)) now)) pids
      each_found row pids same = subst (All (λ q. IsSome (lookup (is_at (nat_cmp q)) now))) (sym same) (in_list row)

      pub one_home_now : HaveOneHome (λ q. lookup (is_at (nat_cmp q)) now) → HaveOneHome (process_at pages)
      one_home_now h p q x y a b = h p q x y (get_is p ∙ a) (get_is q ∙ b)

    -- a sorted list of the pids that pass a test
    pub listed_is : (p : ℕ × Process A → Bool) (pids sorted : List ℕ) → IsPermutation pids sorted → IsSorted nat_cmp sorted
        → ((q : ℕ) → count_by (eqb q) pids ≡ counted p q (process_at pages q)) → sorted ≡ map (λ e. e.0) (filter p (table_of pages))
    listed_is p pids sorted moved up counts =
        same_numbers sorted (map (λ e. e.0) (filter p (table_of pages))) (up_from_sort sorted up)
        (non_decreasing_from_sorted (map (λ e. e.0) (filter p (table_of pages))) (kept_order p (table_of pages) (table_ascends pages)))
        (λ q. count-IsPermutation q pids sorted moved ∙ counts q ∙ sym (rows_counted (process_at pages) p q 0 pid_count (omega arith) (past q)))

    pub listed_now : (now : List (ℕ × Process A)) → table_of pages ≡ now → (p : ℕ × Process A → Bool) (pids sorted : List ℕ)
        → IsPermutation pids sorted → IsSorted nat_cmp sorted → ((q : ℕ) → count_by (eqb q) pids ≡ counted p q (process_at pages q))
        → sorted ≡ map (λ e. e.0) (filter p now)
    listed_now now view p pids sorted moved up counts = listed_is p pids sorted moved up counts ∙ ap (λ es. map (λ e. e.0) (filter p es)) view
