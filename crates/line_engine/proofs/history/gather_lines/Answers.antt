use Rattle.std.proofs.Common.{rules, ◌∙◌}
use Rattle.undo_journal.specs.CommandMeaning.{command_of}
use Rattle.line_engine.specs.Listings.{history_from, lines_bytes}
use Rattle.line_engine.proofs.HistoryLines.{line_more, lines_all}
use Rattle.line_engine.proofs.history.gather_lines.Goals as goal

pub loop-place-preserved : goal.loop-place-preserved
loop-place-preserved c =
    line_more c.args.engine.now.machine.past c.loop-place.place (command_of c.in-Some.command.now) c.loop-place.bytes.items c.extend_from_slice.new.self.items c.push.new.self.items c.as_slice.result.now
    (lines_bytes (history_from c.args.engine.now.machine.past c.args.from)) c.in-Some.ensures (c.as_slice.ensures.value ∙ c.in_ok-text.ensures) (search rules) c.in_ok-push.ensures.items c.loop-place.invariant

pub returns : goal.returns
returns c =
    lines_all c.args.engine.now.machine.past c.loop-place.place c.loop-place.bytes.items (lines_bytes (history_from c.args.engine.now.machine.past c.args.from)) (search rules) c.loop-place.invariant
