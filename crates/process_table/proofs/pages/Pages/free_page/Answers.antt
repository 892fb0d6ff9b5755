use Rattle.std.proofs.Common.{◌/◌, ◌<◌, length, ap, ◌∙◌, arith}
use Rattle.process_table.specs.Cells.{cell_at}
use Rattle.process_table.proofs.PageChanges.{wrote_alike}
use Rattle.process_table.proofs.pages.Pages.free_page.Goals as goal

pub returns-then-page-len : goal.returns-then-page-len
returns-then-page-len g c = λ q.
    let listed : c.args.pid / 64 < length c.self.inside.pages.items = omega (arith, c.len.ensures, c.self.inside.pages.ok) in
    wrote_alike c.self.inside.pages.items c.args.pid c.index_mut.result.now listed c.index_mut.ensures.value c.free.new.self c.free.ensures q
    ∙ ap (λ pages. cell_at pages q) c.self.view_is
