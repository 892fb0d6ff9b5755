use Rattle.std.proofs.Common.{◌∙◌}
use Rattle.flat_model.specs.Path.{at_or_below}
use Rattle.process_table.specs.Cells.{cell_at}
use Rattle.process_table.proofs.ChosenPids.{chosen_is}
use Rattle.process_table.proofs.Tables.{one_home_now, listed_now}
use Rattle.process_table.proofs.table.ProcessTable.inside.Goals as goal

pub gather-requires-clause-homes : goal.gather-requires-clause-homes
gather-requires-clause-homes g c = one_home_now c.self.inside.pages c.self.inside.members c.self.invariant c.args.self.now c.self.view_is c.requires

pub returns : goal.returns
returns g c =
    listed_now c.self.inside.pages c.self.inside.members c.self.invariant c.args.self.now c.self.view_is
    (λ e. at_or_below e.1.home c.args.path.now) c.in_ok-pids.pids.items c.sort_unstable.new.self.items
    c.sort_unstable.ensures.permutation c.sort_unstable.ensures.sorted
    (λ q. c.in_ok-pids.ensures q ∙ chosen_is (cell_at c.self.inside.pages) c.self.inside.members c.self.invariant c.args.path.now q)
