use Rattle.std.proofs.Common.{◌≡◌, Some, subst, sym, ◌∙◌}
use Rattle.process_table.specs.declared.process.Cell.{Cell}
use Rattle.process_table.specs.Cells.{cell_at}
use Rattle.process_table.specs.Tied.{Owes}
use Rattle.process_table.proofs.Tables.{small}
use Rattle.process_table.proofs.CellTies.{new_tied, new_owes}
use Rattle.process_table.proofs.tied.put_in.Goals as goal

pub returns-in_default-clause-tied : goal.returns-in_default-clause-tied
returns-in_default-clause-tied g c =
    let d : Cell g.row.A.Denot = record { process = c.args.process; place = c.in_ok-place.place } in
    new_tied (cell_at c.args.pages.now) (cell_at c.put.new.self) c.args.members.now c.push.new.self c.args.pid d c.requires.tied
    (small c.args.pid c.ranges.pid.fits) c.in_ok-place.ensures.place c.in_ok-place.ensures.pushed c.put.ensures.after
    (sym c.put.ensures.before ∙ c.in_default.is)

pub leave-requires : goal.leave-requires
leave-requires g c =
    let d : Cell g.row.A.Denot = record { process = c.args.process; place = c.in_ok-place.place } in
    let before = c.in-Some.before in
    let is : cell_at c.args.pages.now c.args.pid ≡ Some before = sym c.put.ensures.before ∙ c.in-Some.is in
    let owes : Owes (cell_at c.put.new.self) c.push.new.self before.process.row before.place c.args.pid =
    new_owes (cell_at c.args.pages.now) (cell_at c.put.new.self) c.args.members.now c.push.new.self c.args.pid d c.requires.tied
    (small c.args.pid c.ranges.pid.fits) c.in_ok-place.ensures.place c.in_ok-place.ensures.pushed c.put.ensures.after before is in
    subst (λ p. Owes (cell_at c.put.new.self) c.push.new.self before.process.row before.place p) (sym owes.here.here) owes
