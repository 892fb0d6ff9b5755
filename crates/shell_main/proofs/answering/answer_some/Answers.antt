use Rattle.std.proofs.Common.{List, ℕ, ◌++◌, Err, subst}
use Rattle.program_io.specs.Device.{WholeWrite}
use Rattle.shell_main.specs.Devices.{SinkState}
use Rattle.shell_main.proofs.Outputs.{cut_short}
use Rattle.shell_main.proofs.answering.answer_some.Goals as goal

pub returns-clause-err : goal.returns-clause-err
returns-clause-err g c =
    let before = g.W.Sink.taken c.args.writer.now in
    let writer = c.write_whole.new.sink in
    let sink : SinkState = record { taken = g.W.Sink.taken writer; failed = g.W.Sink.is_failed writer; flushed = g.W.Sink.is_flushed writer } in
    cut_short c.answer_lines-answered.result (λ rest. rest.now) c.args.options c.args.talk.now c.answer_lines-answered.new.talk (c.args.line.now.items ++ c.args.bytes.now)
    c.answer_lines-answered.new.line.items c.answer_lines-answered.new.out.items before sink c.in-Err.field-0
    c.answer_lines-answered.ensures.ok c.answer_lines-answered.ensures.err
    (subst (λ (x : List ℕ). WholeWrite before x sink.taken sink.failed sink.flushed (Err c.in-Err.field-0)) c.as_slice.ensures.value c.in-Err.ensures)
