-- How the cells of the pids and the lists of the rows agree.
use Rattle.std.specs.Prelude.{ℕ, ◌+◌, ◌≤◌, ◌≡◌, ◌≢◌, eqb, cond, List, Option, Some, None, count_by}
use Rattle.process_table.specs.declared.process.Cell.{Cell}
use Rattle.process_table.specs.Members.{list_at, IsAt}
use Rattle.process_table.specs.Rows.{pid_count}

-- how often q is in the list of s besides: once if q is p and s is the row
abbrev pub owed : ℕ → ℕ → ℕ → ℕ → ℕ
owed row p s q = cond (eqb q p) (cond (eqb row s) 1 0) 0

module _ {A : Type 0} where
  -- how often a pid with this cell is in the list of the row s
  abbrev pub in_row : ℕ → Option (Cell A) → ℕ
  in_row s None = 0
  in_row s (Some c) = cond (eqb c.process.row s) 1 0

  -- each pid is in the list of its row, once, at the index that its cell stores, and in no other list
  pub record IsTied (cell : ℕ → Option (Cell A)) (lists : List (List ℕ)) : Type 0 where
    pub counted : (s q : ℕ) → count_by (eqb q) (list_at lists s) ≡ in_row s (cell q)
    pub placed : (q : ℕ) (c : Cell A) → cell q ≡ Some c → IsAt (list_at lists c.process.row) c.place q
    pub few : (q : ℕ) → pid_count ≤ q → cell q ≡ None

  -- the same, except that p is once more in the list of a row, at an index that its cell does not store
  pub record Owes (cell : ℕ → Option (Cell A)) (lists : List (List ℕ)) (row place p : ℕ) : Type 0 where
    pub counted : (s q : ℕ) → count_by (eqb q) (list_at lists s) ≡ in_row s (cell q) + owed row p s q
    pub placed : (q : ℕ) (c : Cell A) → cell q ≡ Some c → IsAt (list_at lists c.process.row) c.place q
    pub few : (q : ℕ) → pid_count ≤ q → cell q ≡ None
    pub here : IsAt (list_at lists row) place p
    pub elsewhere : (c : Cell A) → cell p ≡ Some c → c.process.row ≡ row → c.place ≢ place
