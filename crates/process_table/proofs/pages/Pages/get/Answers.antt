use Rattle.std.proofs.Common.{◌/◌, ◌<◌, ◌≤◌, length, sym, ◌∙◌, arith}
use Rattle.process_table.proofs.PageChanges.{cell_here, no_page}
use Rattle.process_table.proofs.pages.Pages.get.Goals as goal

pub returns-then-page-len : goal.returns-then-page-len
returns-then-page-len g c =
    let listed : c.args.pid / 64 < length c.self.inside.pages.items = omega (arith, c.len.ensures, c.self.inside.pages.ok) in
    rw (← c.self.view_is) (c.get.ensures ∙ cell_here c.self.inside.pages.items c.args.pid c.index.result.now listed c.index.ensures)

pub returns-else-page-len : goal.returns-else-page-len
returns-else-page-len g c =
    let past : length c.self.inside.pages.items ≤ c.args.pid / 64 = omega (arith, c.len.ensures, c.self.inside.pages.ok) in
    rw (← c.self.view_is) (sym (no_page c.self.inside.pages.items c.args.pid past))
