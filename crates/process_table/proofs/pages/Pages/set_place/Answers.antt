use Rattle.std.proofs.Common.{◌/◌, ◌%◌, ◌<◌, ◌≤◌, None, length, option_map, get_or, refl, ap, arith}
use Rattle.process_table.specs.Cells.{at_place}
use Rattle.process_table.proofs.PageChanges.{cell_here, wrote, kept_read, no_page, none_there}
use Rattle.process_table.proofs.pages.Pages.set_place.Goals as goal

pub returns-then-page-len : goal.returns-then-page-len
returns-then-page-len g c =
    let listed : c.args.pid / 64 < length c.self.inside.pages.items = omega (arith, c.len.ensures, c.self.inside.pages.ok) in
    let page = c.index_mut.result.now in
    rw (← c.self.view_is, c.set_place.ensures, ← cell_here c.self.inside.pages.items c.args.pid page listed c.index_mut.ensures.value)
    (wrote c.self.inside.pages.items c.args.pid page listed c.index_mut.ensures.value
    (option_map (at_place c.args.place) (get_or page (c.args.pid % 64) None))
    (kept_read (option_map (at_place c.args.place)) refl page (c.args.pid % 64)))

pub returns-else-page-len : goal.returns-else-page-len
returns-else-page-len g c =
    let past : length c.self.inside.pages.items ≤ c.args.pid / 64 = omega (arith, c.len.ensures, c.self.inside.pages.ok) in
    rw (← c.self.view_is) (none_there c.self.inside.pages.items c.args.pid past (option_map (at_place c.args.place) _)
    (ap (option_map (at_place c.args.place)) (no_page c.self.inside.pages.items c.args.pid past)))
