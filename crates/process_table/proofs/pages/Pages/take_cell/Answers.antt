use Rattle.std.proofs.Common.{◌/◌, ◌%◌, ◌<◌, ◌≤◌, None, length, refl, sym, ◌∙◌, arith}
use Rattle.process_table.proofs.PageChanges.{cell_here, wrote_as, kept_read, no_page, none_there}
use Rattle.process_table.proofs.pages.Pages.take_cell.Goals as goal

pub returns-then-page-len-clause-before : goal.returns-then-page-len-clause-before
returns-then-page-len-clause-before g c =
    let listed : c.args.pid / 64 < length c.self.inside.pages.items = omega (arith, c.len.ensures, c.self.inside.pages.ok) in
    rw (← c.self.view_is) (c.take.ensures.before ∙ cell_here c.self.inside.pages.items c.args.pid c.index_mut.result.now listed c.index_mut.ensures.value)

pub returns-then-page-len-clause-after : goal.returns-then-page-len-clause-after
returns-then-page-len-clause-after g c =
    let listed : c.args.pid / 64 < length c.self.inside.pages.items = omega (arith, c.len.ensures, c.self.inside.pages.ok) in
    rw (← c.self.view_is) (wrote_as c.self.inside.pages.items c.args.pid c.index_mut.result.now listed c.index_mut.ensures.value None
    c.take.new.self (kept_read (λ _. None) refl c.index_mut.result.now (c.args.pid % 64)) c.take.ensures.after)

pub returns-else-page-len-clause-before : goal.returns-else-page-len-clause-before
returns-else-page-len-clause-before g c =
    let past : length c.self.inside.pages.items ≤ c.args.pid / 64 = omega (arith, c.len.ensures, c.self.inside.pages.ok) in
    rw (← c.self.view_is) (sym (no_page c.self.inside.pages.items c.args.pid past))

pub returns-else-page-len-clause-after : goal.returns-else-page-len-clause-after
returns-else-page-len-clause-after g c =
    let past : length c.self.inside.pages.items ≤ c.args.pid / 64 = omega (arith, c.len.ensures, c.self.inside.pages.ok) in
    rw (← c.self.view_is) (none_there c.self.inside.pages.items c.args.pid past None refl)
