use Rattle.std.proofs.Common.{◌≡◌, drop, map}
use Rattle.program_io.specs.Clusters.{cluster_first}
use Rattle.program_io.proofs.arguments.cluster_first.Given as goal

abbrev pub invariant-loop-word : goal.invariant-loop-word
invariant-loop-word g l = cluster_first (map g.S.AsStr.text (drop l.word-index l.words)) ≡ cluster_first (map g.S.AsStr.text l.words)
