use Rattle.std.proofs.Common.{◌∙◌, sym, arith}
use Rattle.program_io.proofs.ClusterSearches.{asks_at, clusters_at, none_at, passes_at}
use Rattle.program_io.proofs.arguments.cluster_first.Goals as goal

pub returns-then-asks_text : goal.returns-then-asks_text
returns-then-asks_text g c = sym (asks_at _ g.S.AsStr.text c.args.words.now c.loop-word.word-index c.word-item.result c.as_str-text.result.now
    (omega arith) c.word-item.is c.as_str-text.ensures (sym c.asks_text.ensures ∙ c.if-asks_text.true)) ∙ c.loop-word.invariant

pub returns-then-is_cluster : goal.returns-then-is_cluster
returns-then-is_cluster g c = sym (clusters_at _ g.S.AsStr.text c.args.words.now c.loop-word.word-index c.word-item.result c.as_str-text.result.now
    (omega arith) c.word-item.is c.as_str-text.ensures (sym c.asks_text.ensures ∙ c.if-asks_text.false) (sym c.is_cluster.ensures ∙ c.if-is_cluster.true)) ∙ c.loop-word.invariant

pub loop-word-preserved : goal.loop-word-preserved
loop-word-preserved g c = sym (passes_at _ g.S.AsStr.text c.args.words.now c.loop-word.word-index c.word-item.result c.as_str-text.result.now
    (omega arith) c.word-item.is c.as_str-text.ensures (sym c.asks_text.ensures ∙ c.if-asks_text.false) (sym c.is_cluster.ensures ∙ c.if-is_cluster.false)) ∙ c.loop-word.invariant

pub returns : goal.returns
returns g c = sym (none_at _ g.S.AsStr.text c.args.words.now c.loop-word.word-index (omega arith)) ∙ c.loop-word.invariant
