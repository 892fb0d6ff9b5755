use Rattle.std.proofs.Common.{◌≡◌, ◌∙◌, ◌++◌, ◌==◌, [], ℕ, List, false, true, Ok, Err, length, subst, rules, ◌<◌}
use Rattle.flat_model.specs.Trace.{read_line}
use Rattle.shell_main.specs.Devices.{SinkState, SourceState}
use Rattle.shell_main.specs.Talks.{Finishes, StandsBeforeRead}
use Rattle.shell_main.proofs.Ends.{at_end, handed_on, last_ended, last_served, served, stop_ended}
use Rattle.shell_main.proofs.ReadStates.{went_on}
use Rattle.shell_main.proofs.serving.serve_read.Goals as goal

-- ---- at the end of the source

pub returns-in_err-answer_last-clause-serves : goal.returns-in_err-answer_last-clause-serves
returns-in_err-answer_last-clause-serves g c =
    let how = c.args.options in
    let source : SourceState = record { left = g.S.Source.left c.next_chunk.new.reader; failed = g.S.Source.is_failed c.next_chunk.new.reader } in
    let old : SinkState = record { taken = g.W.Sink.taken c.args.writer.now; failed = g.W.Sink.is_failed c.args.writer.now; flushed = g.W.Sink.is_flushed c.args.writer.now } in
    let after = c.answer_last.new.writer in
    let sink : SinkState = record { taken = g.W.Sink.taken after; failed = g.W.Sink.is_failed after; flushed = g.W.Sink.is_flushed after } in
    let good : g.S.Source.is_failed c.args.reader.now ≡ false = search rules in
    let mark : source.failed ≡ false = c.in-Ok.ensures.mark ∙ good in
    let now = c.args.talk.now in
    let line = c.args.line.now.items in
    let stands : (lines : List ℕ) × StandsBeforeRead how g.start.0 (g.S.Source.left c.args.reader.now) g.start.1 old now lines line [] = search rules in
    let room : 0 < length c.next_chunk.new.buf = search rules in
    let none : c.in-Ok.count ≡ 0 = search rules in
    let end = at_end source.left c.next_chunk.new.buf c.in-Ok.count stands.1 c.in-Ok.ensures.bytes none room in
    let some : (length line == 0) ≡ false = search rules in
    let fault = c.in_err-answer_last.field-0.0 in
    let new = c.answer_last.new.talk in
    let P : List ℕ → Type 0 = λ x. Finishes how now (read_line x) old.taken sink (Err fault) new in
    handed_on c.from_residual.result fault how g.start.0 source g.start.1 sink new line c.from_residual.ensures.1
    (last_ended source fault sink new end.0 end.1 some mark (subst P c.as_slice-then-not-is_empty.ensures.value c.in_err-answer_last.ensures))

pub returns-in_ok-answer_last-clause-serves : goal.returns-in_ok-answer_last-clause-serves
returns-in_ok-answer_last-clause-serves g c =
    let how = c.args.options in
    let source : SourceState = record { left = g.S.Source.left c.next_chunk.new.reader; failed = g.S.Source.is_failed c.next_chunk.new.reader } in
    let old : SinkState = record { taken = g.W.Sink.taken c.args.writer.now; failed = g.W.Sink.is_failed c.args.writer.now; flushed = g.W.Sink.is_flushed c.args.writer.now } in
    let after = c.answer_last.new.writer in
    let sink : SinkState = record { taken = g.W.Sink.taken after; failed = g.W.Sink.is_failed after; flushed = g.W.Sink.is_flushed after } in
    let good : g.S.Source.is_failed c.args.reader.now ≡ false = search rules in
    let mark : source.failed ≡ false = c.in-Ok.ensures.mark ∙ good in
    let now = c.args.talk.now in
    let line = c.args.line.now.items in
    let stands : (lines : List ℕ) × StandsBeforeRead how g.start.0 (g.S.Source.left c.args.reader.now) g.start.1 old now lines line [] = search rules in
    let room : 0 < length c.next_chunk.new.buf = search rules in
    let none : c.in-Ok.count ≡ 0 = search rules in
    let end = at_end source.left c.next_chunk.new.buf c.in-Ok.count stands.1 c.in-Ok.ensures.bytes none room in
    let some : (length line == 0) ≡ false = search rules in
    let new = c.answer_last.new.talk in
    let P : List ℕ → Type 0 = λ x. Finishes how now (read_line x) old.taken sink (Ok tt) new in
    last_served source sink new tt end.0 end.1 some mark (subst P c.as_slice-then-not-is_empty.ensures.value c.in_ok-answer_last.ensures)

pub returns-else-not-is_empty-clause-serves : goal.returns-else-not-is_empty-clause-serves
returns-else-not-is_empty-clause-serves g c =
    let how = c.args.options in
    let source : SourceState = record { left = g.S.Source.left c.next_chunk.new.reader; failed = g.S.Source.is_failed c.next_chunk.new.reader } in
    let sink : SinkState = record { taken = g.W.Sink.taken c.args.writer.now; failed = g.W.Sink.is_failed c.args.writer.now; flushed = g.W.Sink.is_flushed c.args.writer.now } in
    let good : g.S.Source.is_failed c.args.reader.now ≡ false = search rules in
    let mark : source.failed ≡ false = c.in-Ok.ensures.mark ∙ good in
    let now = c.args.talk.now in
    let line = c.args.line.now.items in
    let stands : (lines : List ℕ) × StandsBeforeRead how g.start.0 (g.S.Source.left c.args.reader.now) g.start.1 sink now lines line [] = search rules in
    let room : 0 < length c.next_chunk.new.buf = search rules in
    let none : c.in-Ok.count ≡ 0 = search rules in
    let end = at_end source.left c.next_chunk.new.buf c.in-Ok.count stands.1 c.in-Ok.ensures.bytes none room in
    let empty : (length line == 0) ≡ true = search rules in
    served source end.0 end.1 empty mark

-- ---- from part to part of what was read

pub returns-in_err-rest-clause-serves : goal.returns-in_err-rest-clause-serves
returns-in_err-rest-clause-serves g c =
    let source : SourceState = record { left = g.S.Source.left c.next_chunk.new.reader; failed = g.S.Source.is_failed c.next_chunk.new.reader } in
    let after = c.answer_some.new.writer in
    let sink : SinkState = record { taken = g.W.Sink.taken after; failed = g.W.Sink.is_failed after; flushed = g.W.Sink.is_flushed after } in
    let good : g.S.Source.is_failed c.args.reader.now ≡ false = search rules in
    let mark : source.failed ≡ false = c.in-Ok.ensures.mark ∙ good in
    let fault = c.in_err-rest.field-0.0 in
    handed_on c.from_residual-in_err-rest.result fault c.args.options g.start.0 source g.start.1 sink c.answer_some.new.talk c.answer_some.new.line.items c.from_residual-in_err-rest.ensures.1
    (stop_ended source fault sink c.more.invariant.1 c.in_err-rest.ensures.err mark)

pub more-preserved : goal.more-preserved
more-preserved g c =
    let inv = c.more.invariant in
    let went = c.in_ok-rest.ensures.ok in
    let after = c.answer_some.new.writer in
    let sink : SinkState = record { taken = g.W.Sink.taken after; failed = g.W.Sink.is_failed after; flushed = g.W.Sink.is_flushed after } in
    (inv.0 ++ went.answered.text, went_on {sink = sink} inv.1 went)
