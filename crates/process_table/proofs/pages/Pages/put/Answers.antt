use Rattle.std.proofs.Common.{◌/◌, ◌%◌, ◌<◌, [], Some, length, subst, sym, ◌∙◌}
use Rattle.std.proofs.lemmas.List.{get_or_read}
use Rattle.process_table.specs.Cells.{HasPage}
use Rattle.process_table.proofs.PageChanges.{cell_here, wrote, kept_within}
use Rattle.process_table.proofs.pages.Pages.put.Goals as goal

pub returns-clause-before : goal.returns-clause-before
returns-clause-before g c =
    let has : HasPage c.self.inside.pages.items c.args.pid = rw (c.self.view_is) c.requires in
    rw (← c.self.view_is) (c.put.ensures.before ∙ cell_here c.self.inside.pages.items c.args.pid c.index_mut.result.now has.listed c.index_mut.ensures.value)

pub returns-clause-after : goal.returns-clause-after
returns-clause-after g c =
    let has : HasPage c.self.inside.pages.items c.args.pid = rw (c.self.view_is) c.requires in
    let page = c.index_mut.result.now in
    let within : c.args.pid % 64 < length page =
    subst (λ l. c.args.pid % 64 < length l)
    (sym (get_or_read c.self.inside.pages.items (c.args.pid / 64) page has.listed c.index_mut.ensures.value [])) has.made in
    rw (
      ← c.self.view_is,
      c.put.ensures.after,
    ) (wrote c.self.inside.pages.items c.args.pid page has.listed c.index_mut.ensures.value (Some c.args.cell)
    (kept_within page (c.args.pid % 64) (Some c.args.cell) within))
