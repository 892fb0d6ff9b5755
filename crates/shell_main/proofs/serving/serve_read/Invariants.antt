use Rattle.std.proofs.Common.{ℕ, List, length}
use Rattle.shell_main.specs.Talks.{StandsBeforeRead}
use Rattle.shell_main.proofs.serving.serve_read.Given as goal

abbrev pub ghost-next_chunk : goal.ghost-next_chunk
ghost-next_chunk g a = g.start

abbrev pub invariant-more : goal.invariant-more
invariant-more g l =
    (lines : List ℕ) × StandsBeforeRead l.options g.start.0 (g.S.Source.left l.reader) g.start.1
    (record { taken = g.W.Sink.taken l.writer; failed = g.W.Sink.is_failed l.writer; flushed = g.W.Sink.is_flushed l.writer })
    l.talk lines l.line.items l.rest

abbrev pub decreases-more : goal.decreases-more
decreases-more g l = length l.rest
