-- Pages of cells, read by pid.
use Rattle.std.specs.Prelude.{ℕ, ◌/◌, ◌%◌, ◌<◌, List, [], Option, None, length}
use Rattle.std.specs.List.{slice_index_or}
use Rattle.process_table.specs.declared.process.Cell.{Cell}

-- the cell with another index
abbrev pub at_place : {A : Type 0} → ℕ → Cell A → Cell A
at_place place c = record c { place = place }

module _ {X : Type 0} where
  -- what is stored for a pid
  unfoldable pub cell_at : List (List (Option X)) → ℕ → Option X
  cell_at pages q = slice_index_or (slice_index_or pages (q / 64) []) (q % 64) None

  -- there is a page for the pid
  pub record HasPage (pages : List (List (Option X))) (q : ℕ) : Type 0 where
    pub listed : q / 64 < length pages
    pub made : q % 64 < length (slice_index_or pages (q / 64) [])
