use Rattle.std.proofs.Common.{◌∙◌, ap, length, ◌-◌}
use Rattle.line_engine.specs.Listings.{history_from, lines_bytes}
use Rattle.line_engine.proofs.HistoryLines.{length-history}
use Rattle.line_engine.proofs.ListingBytes.{told_all}
use Rattle.line_engine.proofs.engine.LineEngine.history.Goals as goal

pub returns : goal.returns
returns c =
    let told = history_from c.args.self.now.engine.machine.past c.args.from in
    told_all (lines_bytes told) c.as_slice.result.now c.put_listing.new.out (length told) c.saturating_sub-count.result c.put_listing.result
    (c.as_slice.ensures.value ∙ c.in-Ok.ensures)
    (c.saturating_sub-count.ensures ∙ ap (λ n. n - c.args.from) c.depth.ensures ∙ length-history c.args.self.now.engine.machine.past c.args.from)
    c.put_listing.ensures
