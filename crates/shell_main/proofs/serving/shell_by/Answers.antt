use Rattle.std.proofs.Common.{◌∙◌, [], sym, rules}
use Rattle.shell_main.specs.Devices.{SinkState, SourceState}
use Rattle.shell_main.proofs.FirstFlush.{after_flush, flushed_by, unflushed, unstarted}
use Rattle.shell_main.proofs.ReadStates.{at_start}
use Rattle.shell_main.proofs.serving.shell_by.Goals as goal

pub returns-then-is_err : goal.returns-then-is_err
returns-then-is_err g c =
    let reader = c.args.reader.now in
    let writer = c.write_whole.new.sink in
    let source : SourceState = record { left = g.S.Source.left reader; failed = g.S.Source.is_failed reader } in
    let sink : SinkState = record { taken = g.W.Sink.taken writer; failed = g.W.Sink.is_failed writer; flushed = g.W.Sink.is_flushed writer } in
    unflushed c.write_whole.result c.args.options source.left source (g.W.Sink.taken c.args.writer.now) sink
    c.write_whole.ensures (sym c.is_err.ensures.value ∙ c.if-is_err.true) c.requires.reader

pub serve-requires-sync-R : goal.serve-requires-sync-R
serve-requires-sync-R g c κs within =
    let writer = c.write_whole.new.sink in
    let sink : SinkState = record { taken = g.W.Sink.taken writer; failed = g.W.Sink.is_failed writer; flushed = g.W.Sink.is_flushed writer } in
    let flushed = flushed_by c.write_whole.result (g.W.Sink.taken c.args.writer.now) sink c.write_whole.ensures (sym c.is_err.ensures.value ∙ c.if-is_err.false) in
    let stands = at_start c.args.options (g.S.Source.left c.args.reader.now) sink c.in-Ok.talk c.in-Ok.ensures flushed.0 flushed.1 in
    (search rules, (search rules, (search rules, (search rules, (c.requires.reader, ([], stands))))))

pub returns : goal.returns
returns g c =
    let writer = c.write_whole.new.sink in
    let middle : SinkState = record { taken = g.W.Sink.taken writer; failed = g.W.Sink.is_failed writer; flushed = g.W.Sink.is_flushed writer } in
    let flushed = flushed_by c.write_whole.result (g.W.Sink.taken c.args.writer.now) middle c.write_whole.ensures (sym c.is_err.ensures.value ∙ c.if-is_err.false) in
    let source : SourceState = record { left = g.S.Source.left c.serve.new.reader; failed = g.S.Source.is_failed c.serve.new.reader } in
    let after = c.serve.new.writer in
    let sink : SinkState = record { taken = g.W.Sink.taken after; failed = g.W.Sink.is_failed after; flushed = g.W.Sink.is_flushed after } in
    after_flush c.serve.result c.args.options (g.S.Source.left c.args.reader.now) source (g.W.Sink.taken c.args.writer.now) middle.taken sink flushed.2 c.serve.ensures

pub returns-in_default : goal.returns-in_default
returns-in_default g c =
    let reader = c.args.reader.now in
    let writer = c.write_whole.new.sink in
    let source : SourceState = record { left = g.S.Source.left reader; failed = g.S.Source.is_failed reader } in
    let sink : SinkState = record { taken = g.W.Sink.taken writer; failed = g.W.Sink.is_failed writer; flushed = g.W.Sink.is_flushed writer } in
    let flushed = flushed_by c.write_whole.result (g.W.Sink.taken c.args.writer.now) sink c.write_whole.ensures (sym c.is_err.ensures.value ∙ c.if-is_err.false) in
    unstarted c.args.options source.left source (g.W.Sink.taken c.args.writer.now) sink flushed c.requires.reader
