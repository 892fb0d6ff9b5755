use Rattle.std.proofs.Common.{sym, ap, ◌∙◌}
use Rattle.flat_model.specs.Path.{name_cmp}
use Rattle.group_tree.specs.Node.{Branch}
use Rattle.group_tree.proofs.NameNumbers.{less_by_number, greater_by_number}
use Rattle.group_tree.proofs.node.Node.compare.Goals as goal

pub returns-then-self-number : goal.returns-then-self-number
returns-then-self-number g c =
    sym (less_by_number _ _ _ _ c.self.invariant.1 c.requires c.if-self-number.true) ∙ ap (λ (b : Branch). name_cmp b.name c.args.name.now) c.self.view_is

pub returns-then-self-number-2 : goal.returns-then-self-number-2
returns-then-self-number-2 g c =
    sym (greater_by_number _ _ _ _ c.self.invariant.1 c.requires c.if-self-number-2.true) ∙ ap (λ (b : Branch). name_cmp b.name c.args.name.now) c.self.view_is
