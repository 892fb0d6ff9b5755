use Rattle.std.proofs.Common.{◌≡◌, false, ℕ, List, []}
use Rattle.shell_main.specs.Talks.{StandsBeforeRead}
use Rattle.shell_main.proofs.serving.serve.Given as goal

abbrev pub ghost-serve_read : goal.ghost-serve_read
ghost-serve_read g a = g.start

abbrev pub invariant-loop : goal.invariant-loop
invariant-loop g l =
    (g.S.Source.is_failed l.reader ≡ false)
    × ((lines : List ℕ) × StandsBeforeRead l.options g.start.0 (g.S.Source.left l.reader) g.start.1
    (record { taken = g.W.Sink.taken l.writer; failed = g.W.Sink.is_failed l.writer; flushed = g.W.Sink.is_flushed l.writer })
    l.talk lines l.line.items [])
