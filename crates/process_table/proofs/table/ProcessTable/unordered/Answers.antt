use Rattle.std.proofs.Common.{eqb, count_by, sym, ap, ◌∙◌}
use Rattle.process_table.specs.Cells.{cell_at}
use Rattle.process_table.specs.Chosen.{member_at}
use Rattle.process_table.specs.Members.{list_at}
use Rattle.process_table.proofs.ChosenPids.{in_row_is, member_counted}
use Rattle.process_table.proofs.Tables.{get_is, listed_now, each_found}
use Rattle.process_table.proofs.table.ProcessTable.unordered.Goals as goal

pub returns-clause-present : goal.returns-clause-present
returns-clause-present g c =
    each_found c.self.inside.pages c.self.inside.members c.self.invariant c.args.self.now c.self.view_is c.args.row c.pids.result.now (c.pids.ensures ∙ ap (list_at c.self.inside.members) c.from.ensures)

pub returns-clause-counted : goal.returns-clause-counted
returns-clause-counted g c = λ q.
    ap (count_by (eqb q)) (c.pids.ensures ∙ ap (list_at c.self.inside.members) c.from.ensures) ∙ c.self.invariant.counted c.args.row q
    ∙ in_row_is c.args.row (cell_at c.self.inside.pages q)
    ∙ sym (ap (member_at c.args.row) (get_is c.self.inside.pages c.self.inside.members c.self.invariant c.args.self.now c.self.view_is q))

pub returns-clause-sorted : goal.returns-clause-sorted
returns-clause-sorted g c = λ pids moved up.
    listed_now c.self.inside.pages c.self.inside.members c.self.invariant c.args.self.now c.self.view_is (λ e. eqb e.1.row c.args.row) c.pids.result.now pids moved up
    (λ q. ap (count_by (eqb q)) (c.pids.ensures ∙ ap (list_at c.self.inside.members) c.from.ensures) ∙ c.self.invariant.counted c.args.row q
    ∙ member_counted c.args.row q (cell_at c.self.inside.pages q))
