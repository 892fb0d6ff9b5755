use Rattle.std.proofs.Common.{◌∙◌, ap, sym, arith}
use Rattle.std.specs.List.{position}
use Rattle.std.proofs.lemmas.List.{take_rest}
use Rattle.flat_model.specs.Trace.{is_line_feed}
use Rattle.replay_main.proofs.LineCuts.{cut_at_line_feed}
use Rattle.replay_main.proofs.reading.line_end.Goals as goal

pub returns-in-Some-clause-lines : goal.returns-in-Some-clause-lines
returns-in-Some-clause-lines c =
    let text = c.args.text.now in
    let before = c.min-before.result in
    let least = c.min-before.ensures in
    (cut_at_line_feed text before c.in-Some.at (omega (arith, least)) (ap (λ t. position is_line_feed t) (sym (take_rest text before)) ∙ sym c.line_feed.ensures ∙ c.in-Some.is)).1
