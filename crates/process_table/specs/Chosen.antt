-- Which processes are in a row, and which are at or below a group, row by row.
use Rattle.std.specs.Prelude.{ℕ, ◌≡◌, eqb, nat_lt, cond, Option, Some, None}
use Rattle.flat_model.specs.Path.{Path, at_or_below}
use Rattle.process_table.specs.declared.process.Process.{Process}

module _ {A : Type 0} where
  -- processes of one row are in one group
  abbrev pub HaveOneHome : (ℕ → Option (Process A)) → Type 0
  HaveOneHome at = (p q : ℕ) (x y : Process A) → at p ≡ Some x → at q ≡ Some y → x.row ≡ y.row → x.home ≡ y.home

  -- 1 for a process of the row s, else 0
  abbrev pub member_at : ℕ → Option (Process A) → ℕ
  member_at s None = 0
  member_at s (Some x) = cond (eqb x.row s) 1 0

  -- 1 for a process of the row s that is at or below g, else 0
  abbrev pub chosen_at : ℕ → Path → Option (Process A) → ℕ
  chosen_at s g None = 0
  chosen_at s g (Some x) = cond (eqb x.row s) (cond (at_or_below x.home g) 1 0) 0

  -- the same for a process of a row below n
  abbrev pub chosen_below : ℕ → Path → Option (Process A) → ℕ
  chosen_below n g None = 0
  chosen_below n g (Some x) = cond (nat_lt x.row n) (cond (at_or_below x.home g) 1 0) 0
