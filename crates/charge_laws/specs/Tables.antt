-- Two processes, and two rows of charges.
use Rattle.std.specs.Prelude.{ℕ, eqb, cond, List, [], ◌∷◌, Option, Some, None}
use Rattle.process_table.specs.declared.process.Process.{Process}

-- x has the pid 1, and y the pid 2
abbrev pub two : Process ℕ → Process ℕ → ℕ → Option (Process ℕ)
two x y q = cond (eqb q 1) (Some x) (cond (eqb q 2) (Some y) None)

abbrev pub rows : List (List ℕ)
rows = (1 ∷ 2 ∷ []) ∷ (3 ∷ 4 ∷ []) ∷ []
