use Rattle.std.proofs.Common.{rules, ◌+◌, ◌*◌, ◌<◌, subst, ap}
use Rattle.snzi_tree.proofs.Loads.{stages}
use Rattle.snzi_tree.proofs.StepEvents.{load_makes}
use Rattle.snzi_tree.specs.View.{holding}
use Rattle.snzi_tree.specs.Tallies.{known}
use mathlib.Core.Option.{none}
use Rattle.atomic_table.specs.Table.{step}
use Rattle.snzi_tree.proofs.Active.{staged_active}
use Rattle.snzi_tree.proofs.board.Board.stage_one.Goals as goal

pub stage-requires : goal.stage-requires
stage-requires g c = let w = g.row.W in let l = g.row.L in (
  search rules,
  (
    c.requires.here,
    c.node-word.ensures.place.1,
    (
      stages (g.row.G * (w + l)) w l c.args.self.now.shape.0 _ _ _ (known c.args.seat.now.me),
      (λ s m r at told. load_makes g.row.G w l c.args.self.now.shape s r c.args.seat.now.id (known c.args.seat.now.me) at c.requires.acts
          c.node-word.result (subst (λ k. c.node-word.result < k) c.args.self.now.words c.node-word.ensures.place.1) m (ap holding told.0)),
      staged_active (step c.args.self.now.table.shared.table_id.slots c.node-word.result 0 0 none) (known c.args.seat.now.me)
          c.requires.acts,
    ),
  ),
)
