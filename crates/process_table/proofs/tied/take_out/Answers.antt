use Rattle.std.proofs.Common.{◌≡◌, Some, subst, sym}
use Rattle.process_table.specs.Cells.{cell_at}
use Rattle.process_table.specs.Tied.{Owes}
use Rattle.process_table.proofs.CellTies.{taken_owes}
use Rattle.process_table.proofs.tied.take_out.Goals as goal

pub leave-requires : goal.leave-requires
leave-requires g c =
    let is : cell_at c.args.pages.now c.args.pid ≡ Some c.in_ok-cell.cell = sym c.in_ok-cell.ensures.before in
    subst (λ p. Owes (cell_at c.take.new.self) c.args.members.now c.in_ok-cell.cell.process.row c.in_ok-cell.cell.place p) (sym (c.requires.placed c.args.pid c.in_ok-cell.cell is).here)
    (taken_owes (cell_at c.args.pages.now) (cell_at c.take.new.self) c.args.members.now c.args.pid c.in_ok-cell.cell c.requires is c.take.ensures.after)
