use Rattle.std.proofs.Common.{subst, take}
use Rattle.flat_model.specs.Path.{Path}
use Rattle.group_tree.specs.Groups.{Groups, Sets}
use Rattle.group_tree.proofs.ParentClosure.{closed_sets}
use Rattle.group_tree.proofs.PathMaps.{sets}
use Rattle.group_tree.proofs.tree.GroupTree.set_at.Goals as goal

pub invariant_of-self : goal.invariant_of-self
invariant_of-self g c = closed_sets _ _ _ c.args.attr _ c.self.invariant c.set.ensures.groups

pub returns : goal.returns
returns g c =
    subst (λ (m : Groups). Sets m c.set.new.self.groups (take c.args.n c.args.path.now) c.args.attr c.set.result) c.self.view_is
    (subst (λ (p : Path). Sets c.self.inside.root.groups c.set.new.self.groups p c.args.attr c.set.result) c.first_names.ensures (sets _ _ _ _ _ c.set.ensures.groups))
