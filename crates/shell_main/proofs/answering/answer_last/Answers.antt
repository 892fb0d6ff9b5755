use Rattle.std.proofs.Common.{List, ℕ, Err, subst}
use Rattle.flat_model.specs.Trace.{read_line}
use Rattle.program_io.specs.Device.{WholeWrite}
use Rattle.shell_main.specs.Devices.{SinkState}
use Rattle.shell_main.specs.Talks.{AnswersShellLine}
use Rattle.shell_main.proofs.Lasts.{unfinished}
use Rattle.shell_main.proofs.answering.answer_last.Goals as goal

pub returns : goal.returns
returns g c =
    let before = g.W.Sink.taken c.args.writer.now in
    let writer = c.write_whole.new.sink in
    let sink : SinkState = record { taken = g.W.Sink.taken writer; failed = g.W.Sink.is_failed writer; flushed = g.W.Sink.is_flushed writer } in
    let now = c.args.talk.now in
    let new = c.say-said.new.talk in
    let line = read_line c.args.line.now in
    let out = c.say-said.new.out.items in
    unfinished c.say-said.result c.args.options now new line out before sink c.in-Err.field-0
    (subst (λ (x : List ℕ). AnswersShellLine c.args.options now line x out c.say-said.result new) c.new-answer.ensures.items c.say-said.ensures)
    (subst (λ (x : List ℕ). WholeWrite before x sink.taken sink.failed sink.flushed (Err c.in-Err.field-0)) c.as_slice.ensures.value c.in-Err.ensures)
