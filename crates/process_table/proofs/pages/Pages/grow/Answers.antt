use Rattle.std.proofs.Common.{◌/◌, ◌<◌, length, ap, ◌∙◌}
use Rattle.process_table.specs.Cells.{cell_at}
use Rattle.process_table.proofs.PageChanges.{same_cells, wrote_alike}
use Rattle.process_table.proofs.pages.Pages.grow.Goals as goal

pub returns-in_err-lengthen-clause-same : goal.returns-in_err-lengthen-clause-same
returns-in_err-lengthen-clause-same g c = same_cells c.args.self.now c.lengthen.new.self c.lengthen.ensures.same

pub returns-clause-same : goal.returns-clause-same
returns-clause-same g c = λ q.
    let listed : c.args.pid / 64 < length c.self.inside.pages.items = rw c.self.view_is c.in_ok-lengthen.ensures.listed in
    wrote_alike c.self.inside.pages.items c.args.pid c.index_mut.result.now listed c.index_mut.ensures.value c.fill.new.self c.fill.ensures.same q
    ∙ ap (λ pages. cell_at pages q) c.self.view_is
    ∙ same_cells c.args.self.now c.lengthen.new.self c.lengthen.ensures.same q
