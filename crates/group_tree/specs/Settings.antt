-- Setting the attributes of a group, seen from a node.
use Rattle.std.specs.Prelude.{◌≡◌, Bool, true, false, Some, None, IsSome}
use Rattle.std.specs.FinMap.{get}
use Rattle.flat_model.specs.Path.{Path}
use Rattle.group_tree.specs.declared.attr.Attr.{Attr}
use Rattle.group_tree.specs.Groups.{Groups}
use Rattle.group_tree.specs.Node.{IsUpdated}

-- what setting the attributes at p returns and leaves
abbrev pub NodeSets : Groups → Groups → Path → Attr → Bool → Type 0
NodeSets old new p attr true = IsSome (get old p) × IsUpdated old new p (Some attr)
NodeSets old new p attr false = (get old p ≡ None) × (new ≡ old)
