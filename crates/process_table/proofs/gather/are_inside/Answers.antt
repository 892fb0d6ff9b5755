use Rattle.std.proofs.Common.{sym, ap, ◌∙◌}
use Rattle.std.specs.Option.{option_copied}
use Rattle.process_table.specs.Cells.{cell_at}
use Rattle.process_table.proofs.ChosenPids.{has_cell, answers}
use Rattle.process_table.proofs.gather.are_inside.Goals as goal

pub returns-in_default-get : goal.returns-in_default-get
returns-in_default-get g c =
    λ q x is same. absurd (has_cell (cell_at c.args.pages.now) c.args.members.now c.requires.tied c.args.row 0 c.in-Some.pid
    c.in-Some.ensures (sym c.get.ensures ∙ ap option_copied c.in_default-get.is))

pub returns : goal.returns
returns g c = λ q x is same.
    c.is_at_or_below.ensures
    ∙ answers (cell_at c.args.pages.now) c.args.members.now c.requires.tied c.args.row c.in-Some.pid c.in-Some-get.cell.now c.args.path.now
    c.requires.homes c.in-Some.ensures (sym c.get.ensures ∙ ap option_copied c.in-Some-get.is) q x is same
