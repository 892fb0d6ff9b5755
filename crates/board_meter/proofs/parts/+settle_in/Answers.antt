use Rattle.std.proofs.Common.{rules, ap, ◌∙◌, arith}
use Rattle.snzi_core.specs.Holding.{out, main_weight}
use Rattle.snzi_core.proofs.SplitBalance.{one_out_main, one_out_out}
use Rattle.snzi_tree.specs.Hands.{holds, SameHand}
use Rattle.board_meter.specs.Held.{Settled}
use Rattle.board_meter.proofs.HelperParts.{last_can_settle, rest_can_settle, settled_both}
use Rattle.board_meter.proofs.parts.+settle_in.Goals as goal
use Rattle.board_meter.proofs.parts.+settle_in.Goals.{in-Ok, in-Err}

pub spawn_scoped_with-started-requires-clause-runs : goal.spawn_scoped_with-started-requires-clause-runs
spawn_scoped_with-started-requires-clause-runs g t c κs within =
    let can = c.requires.can in
    let leaving = c.last_run.ensures.place g.row.G g.row.L can.leaving_within in
    let arriving = c.last_run-2.ensures.place g.row.G g.row.L can.arriving_within in
    let e = c.hand_out-helper.ensures in (
      Prim.search rules,
      (
        (
          e.hand.1,
          last_can_settle _ _ _ _ _ _ _ _ _ _ _ _ can e.cut c.last_run-2.ensures.len leaving.1 arriving.1,
          c.if-parts-le1.false,
          c.requires.few,
        ),
        Prim.search rules,
      ),
    )

pub settle_in-requires-after_bounds : goal.settle_in-requires-after_bounds
settle_in-requires-after_bounds g t c κs within =
    let can = c.requires.can in
    let go = c.last_run.ensures in
    let leaving = go.place g.row.G g.row.L can.leaving_within in
    let arriving = c.last_run-2.ensures.place g.row.G g.row.L can.arriving_within in
    let e = c.hand_out-helper.ensures in
    let main = c.requires.main in
    let low = main.1 in
    let few = c.requires.few in
    let one_more = ap out e.cut.role ∙ one_out_out (holds c.args.main.now).role main.0 in (
      Prim.search rules,
      (
        e.hand.0.0 ∙ c.requires.here,
        (
          omega (arith, few),
          (
            rest_can_settle _ _ _ _ _ _ _ _ _ _ _ _ can e.cut c.last_run-2.ensures.len _ go.tokens leaving.0 arriving.0,
            (
              (ap main_weight e.cut.role ∙ one_out_main (holds c.args.main.now).role ∙ main.0, omega (arith, low, one_more, c.if-parts-le1.false)),
              e.cut.at_leaves_left c.requires.at_leaves,
            ),
          ),
        ),
      ),
    )

pub do_last-helper-requires-after_bounds : goal.do_last-helper-requires-after_bounds
do_last-helper-requires-after_bounds g t c κs within =
    let can = c.requires.can in
    let leaving = c.last_run.ensures.place g.row.G g.row.L can.leaving_within in
    let arriving = c.last_run-2.ensures.place g.row.G g.row.L can.arriving_within in
    let e = c.hand_out-helper.ensures in
    rw c.in-Err.ensures.err (
      Prim.search rules,
      (
        e.hand.1,
        last_can_settle _ _ _ _ _ _ _ _ _ _ _ _ can e.cut c.last_run-2.ensures.len leaving.1 arriving.1,
        c.if-parts-le1.false,
        c.requires.few,
      ),
    )

pub join_back-requires : goal.join_back-requires
join_back-requires g t c =
    let done : SameHand c.hand_out-helper.result c.match-started.helper × Settled g.row.W g.row.L c.last_run.result.1.now c.last_run-2.result.1.now (holds c.hand_out-helper.result) (holds c.match-started.helper) =
    elim c.match-started.branch [ in-Ok w ↦ Prim.search rules | in-Err w ↦ Prim.search rules ] in
    let e = c.hand_out-helper.ensures in
    let rest = c.settle_in.ensures in
    let main = c.requires.main in
    let room = c.requires.can.room in
    let given = e.cut.held_given in
    let left = e.cut.held_left in
    let come = c.last_run-2.ensures.len in
    let go = c.last_run.ensures.len in
    let ours = rest.settled.held in
    let theirs = done.1.held in (
      Prim.search rules,
      (
        (rest.hand.0 ∙ e.hand.0.0 ∙ c.requires.here, done.0.0 ∙ e.hand.1),
        (
          (ap main_weight (rest.settled.in_step.role ∙ e.cut.role) ∙ one_out_main (holds c.args.main.now).role ∙ main.0, done.1.in_step.role ∙ e.hand.2),
          (done.1.in_step.at_leaves e.cut.at_leaves, omega (arith, room, given, left, come, go, ours, theirs)),
        ),
      ),
    )

pub returns-clause-settled : goal.returns-clause-settled
returns-clause-settled g t c =
    let done : SameHand c.hand_out-helper.result c.match-started.helper × Settled g.row.W g.row.L c.last_run.result.1.now c.last_run-2.result.1.now (holds c.hand_out-helper.result) (holds c.match-started.helper) =
    elim c.match-started.branch [ in-Ok w ↦ Prim.search rules | in-Err w ↦ Prim.search rules ] in
    let go = c.last_run.ensures in
    let come = c.last_run-2.ensures in
    settled_both g.row.W g.row.L c.args.exchange.leaving.now _ _ c.args.exchange.arriving.now _ _ (holds c.args.main.now) _ _ _ _ (holds c.join_back.new.main) go.tokens
    go.len come.tokens come.len c.hand_out-helper.ensures.cut c.join_back.ensures.together c.settle_in.ensures.settled done.1
