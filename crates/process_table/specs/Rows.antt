-- Rows in the order of their pids.
use Rattle.std.specs.Prelude.{ℕ, zero, suc, ◌^◌, List, [], ◌∷◌, Option, Some, None}
use Rattle.process_table.specs.declared.process.Process.{Process}
use Rattle.process_table.specs.declared.process.Cell.{Cell}
use Rattle.process_table.specs.Cells.{cell_at}

module _ {X : Type 0} where
  -- a row before the others, if there is one
  abbrev pub cons_row : ℕ → Option X → List (ℕ × X) → List (ℕ × X)
  cons_row q None rows = rows
  cons_row q (Some x) rows = (q, x) ∷ rows

  -- the rows of n numbers from k on
  unfoldable pub rows_from : (ℕ → Option X) → ℕ → ℕ → List (ℕ × X)
  rows_from f k zero = []
  rows_from f k (suc n) = cons_row k (f k) (rows_from f (suc k) n)

-- how many numbers a pid may be
unfoldable pub pid_count : ℕ
pid_count = 2 ^ 32

module _ {A : Type 0} where
  -- the process of a cell
  abbrev pub process_of : Option (Cell A) → Option (Process A)
  process_of None = None
  process_of (Some c) = Some c.process

  -- the process that is stored for a pid
  abbrev pub process_at : List (List (Option (Cell A))) → ℕ → Option (Process A)
  process_at pages q = process_of (cell_at pages q)

  -- the table that the pages represent: each process with its pid, pids ascending
  abbrev pub table_of : List (List (Option (Cell A))) → List (ℕ × Process A)
  table_of pages = rows_from (process_at pages) 0 pid_count
