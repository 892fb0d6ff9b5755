use Rattle.std.proofs.Common.{◌≡◌, ℕ, ◌+◌, ◌++◌, cond, eqb, count_by, List, Result, Ok, Err, OnOk, is_ok, sym, ap, ◌∙◌}
use Rattle.process_table.specs.Cells.{cell_at}
use Rattle.process_table.specs.Members.{list_at}
use Rattle.process_table.proofs.ChosenPids.{appended}
use Rattle.process_table.proofs.Outcomes.{on_ok}
use Rattle.process_table.proofs.gather.append_inside.Goals as goal
use Rattle.flat_model.proofs.Sums.{count_by-append}

grown : {T E : Type 0} (r : Result T E) (new longer old : List ℕ) → new ≡ cond (is_ok r) longer old → OnOk r (new ≡ longer)
grown (Ok x) new longer old e = e
grown (Err x) new longer old e = tt

pub returns-then-are_inside : goal.returns-then-are_inside
returns-then-are_inside g c = on_ok c.extend_from_slice.result (λ items q.
    ap (count_by (eqb q)) (items ∙ ap (λ (l : List ℕ). c.args.pids.now.items ++ l) c.pids.ensures)
    ∙ count_by-append (eqb q) c.args.pids.now.items (list_at c.args.members.now c.args.row)
    ∙ ap (λ n. count_by (eqb q) c.args.pids.now.items
    + n) (ap (λ b. cond b (count_by (eqb q) (list_at c.args.members.now c.args.row)) 0) (sym c.if-are_inside.true)
    ∙ appended (cell_at c.args.pages.now) c.args.members.now c.requires.tied c.args.row c.args.path.now c.are_inside.result
    c.are_inside.ensures q)) (grown c.extend_from_slice.result _ _ _ c.extend_from_slice.ensures.items)
