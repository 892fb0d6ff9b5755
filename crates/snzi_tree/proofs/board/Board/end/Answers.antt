use Rattle.std.proofs.Common.{ℕ, ◌+◌, ◌*◌, ◌<◌, subst, sym, arith}
use Rattle.snzi_tree.proofs.LastLoads.{ends}
use Rattle.snzi_tree.proofs.Shares.{pos_mul}
use Rattle.snzi_tree.proofs.board.Board.end.Goals as goal

pub load-requires : goal.load-requires
load-requires g c =
    let w = g.row.W in
    let l = g.row.L in
    let self = c.args.self.now in
    let low = self.shape.0.1 in
    let some : 0 < g.row.G * (w + l) = pos_mul g.row.G (w + l) self.shape.1 (omega (arith, low)) in
    (c.requires.0, subst (λ (k : ℕ). 0 < k) (sym self.words) some, ends g.row.G w l self.table.shared.table_id.slots c.args.seat.now.id 0 c.args.seat.now.me self.shape c.main_knows.ensures)
