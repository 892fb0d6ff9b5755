use Rattle.std.proofs.Common.{Bool, Ok, sym, subst}
use Rattle.trace_talk.specs.declared.summary.Summary.{Summary}
use Rattle.shell_main.specs.Devices.{SinkState, SourceState}
use Rattle.shell_main.specs.Shelled.{ShelledBy}
use Rattle.shell_main.specs.Talks.{Serves}
use Rattle.shell_main.proofs.serving.serve.Goals as goal

pub returns-then-branch : goal.returns-then-branch
returns-then-branch g c =
    let how = c.args.options in
    let reader = c.serve_read.new.reader in
    let writer = c.serve_read.new.writer in
    let source : SourceState = record { left = g.S.Source.left reader; failed = g.S.Source.is_failed reader } in
    let sink : SinkState = record { taken = g.W.Sink.taken writer; failed = g.W.Sink.is_failed writer; flushed = g.W.Sink.is_flushed writer } in
    let P : Bool → Type 0 = λ b. Serves how g.start.0 source g.start.1 sink (Ok b) c.serve_read.new.talk c.serve_read.new.line.items in
    let Q : Summary → Type 0 = λ s. ShelledBy how g.start.0 source g.start.1 sink (Ok s) in
    subst Q (sym c.summary.ensures) (subst P c.if-branch.true c.in_ok-serve_read.ensures.serves)
