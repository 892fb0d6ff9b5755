use Rattle.std.proofs.Common.{sym, ◌∙◌}
use Rattle.pids_charge.proofs.FirstLimits.{met_depth, met_descendants, met_none}
use Rattle.pids_charge.proofs.hierarchy.met_in.Goals as goal

pub returns-then-is_reached-clause-met : goal.returns-then-is_reached-clause-met
returns-then-is_reached-clause-met g c = λ p q there at named far.
    met_descendants c.args.tree.now p q c.row.result.now c.below.result c.args.levels c.args.n (c.row.ensures q there at) named (c.below.ensures q there at) far
    (sym c.is_reached.ensures ∙ c.if-is_reached.true)

pub returns-then-is_reached-2-clause-met : goal.returns-then-is_reached-2-clause-met
returns-then-is_reached-2-clause-met g c = λ p q there at named far.
    met_depth c.args.tree.now p q c.row.result.now c.below.result c.args.levels c.args.n (c.row.ensures q there at) named (c.below.ensures q there at) far
    (sym c.is_reached.ensures ∙ c.if-is_reached.false) (sym c.is_reached-2.ensures ∙ c.if-is_reached-2.true)

pub returns-clause-met : goal.returns-clause-met
returns-clause-met g c = λ p q there at named far.
    met_none c.args.tree.now p q c.row.result.now c.below.result c.args.levels c.args.n (c.row.ensures q there at) named (c.below.ensures q there at) far
    (sym c.is_reached.ensures ∙ c.if-is_reached.false) (sym c.is_reached-2.ensures ∙ c.if-is_reached-2.false)
