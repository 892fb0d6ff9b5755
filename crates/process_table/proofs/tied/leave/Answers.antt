use Rattle.std.proofs.Common.{get_or}
use Rattle.process_table.specs.Cells.{cell_at}
use Rattle.process_table.specs.Members.{list_at}
use Rattle.process_table.proofs.CellTies.{left_alone, left_moved}
use Rattle.process_table.proofs.tied.leave.Goals as goal

pub returns-in_default-clause-tied : goal.returns-in_default-clause-tied
returns-in_default-clause-tied g c =
    left_alone (cell_at c.args.pages.now) c.args.members.now c.leave.new.self c.args.row c.args.place
    (get_or (list_at c.args.members.now c.args.row) c.args.place 0) c.leave.result c.requires c.leave.ensures.left c.leave.ensures.others
    c.in_default.is

pub returns-clause-tied : goal.returns-clause-tied
returns-clause-tied g c =
    left_moved (cell_at c.args.pages.now) c.args.members.now c.leave.new.self c.args.row c.args.place
    (get_or (list_at c.args.members.now c.args.row) c.args.place 0) c.leave.result c.requires c.leave.ensures.left c.leave.ensures.others
    c.in-Some.moved c.in-Some.is (cell_at c.set_place.new.self) c.set_place.ensures
