use Rattle.std.proofs.Common.{◌≡◌, ℕ, ◌+◌, drop}
use Rattle.std.specs.Prelude.{slice_index}
use Rattle.snzi_core.specs.Holding.{added}
use Rattle.snzi_tree.specs.Contents.{count_at, AllInRange}
use Rattle.snzi_tree.proofs.board.Board.stage_all.Given as goal

abbrev pub invariant-loop-t : goal.invariant-loop-t
invariant-loop-t g l = record {
  seat : (l.seat.table_id ≡ l.fn.seat.table_id) × (l.seat.id ≡ l.fn.seat.id);
  holding : l.seat.me.0.view.holding ≡ l.fn.seat.me.0.view.holding;
  range : AllInRange g.row.G g.row.L (drop l.t-index l.share);
  bare : l.seat.me.1 ≡ l.fn.seat.me.1;
  counts : (l.seat.me.0.own ≡ l.fn.seat.me.0.own) × (l.seat.me.0.joined ≡ l.fn.seat.me.0.joined);
  plan : (i : ℕ) → slice_index l.seat.me.0.view.plan i + count_at g.row.W g.row.L i (drop l.t-index l.share) ≡ count_at g.row.W g.row.L i l.share;
  number : added l.seat.me.0.view.plan ≡ l.t-index;
}
