-- The tree's groups as `flat_model` has them: `map_values group_of` has the same paths, limits, event totals and peaks, but no slots.
use Rattle.std.specs.Prelude.{◌≡◌, ◌↔◌, true}
use Rattle.std.specs.List.{list_any}
use Rattle.std.specs.Ordering.{nat_cmp}
use Rattle.std.specs.FinMap.{FinMap, empty, keys}
use Rattle.flat_model.specs.Path.{Path, strictly_below}
use Rattle.flat_model.specs.State as flat
use Rattle.flat_model.specs.Counts as flat_counts
use Rattle.flat_model.specs.File as flat_file
use Rattle.flat_model.specs.Mapped.{map_values}
use Rattle.group_tree.specs.declared.attr.Limit.{Limit}
use Rattle.group_tree.specs.declared.attr.Limit.TheVariants.{Unlimited, At}
use Rattle.group_tree.specs.declared.attr.LimitFile.{LimitFile}
use Rattle.group_tree.specs.declared.attr.LimitFile.TheVariants.{PidsMax, MaxDescendants, MaxDepth}
use Rattle.group_tree.specs.declared.attr.Limits.{Limits}
use Rattle.group_tree.specs.declared.attr.Attr.{Attr}
use Rattle.group_tree.specs.Groups.{Groups, descendant_count, HasBelow}

abbrev pub limit_of : Limit → flat.Limit
limit_of Unlimited = flat.Unlimited
limit_of (At n) = flat.At n

abbrev pub limit_file_of : LimitFile → flat_file.LimitFile
limit_file_of PidsMax = flat_file.PidsMax
limit_file_of MaxDescendants = flat_file.MaxDescendants
limit_file_of MaxDepth = flat_file.MaxDepth

abbrev pub limits_of : Limits → flat.Limits
limits_of l = record { pids = limit_of l.pids; descendants = limit_of l.descendants; depth = limit_of l.depth }

-- a group of the tree as a group of the flat state
abbrev pub group_of : Attr → flat.Attr
group_of a = record { limits = limits_of a.limits; local = a.local; total = a.total; peak = a.peak }

-- a flat state of these groups, with no processes
abbrev pub without_processes : Groups → flat.State
without_processes m = record { groups = map_values group_of m; home = empty }

-- the groups below a group of the tree are those below it in a flat state of the tree's groups
pub record CountsAsFlat (m : Groups) : Type 0 where
  -- `nr_descendants`
  pub counts : (home : FinMap nat_cmp Path) (p : Path) → flat_counts.descendant_count (record { groups = map_values group_of m; home = home }) p ≡ descendant_count m p
  -- the test for children
  pub below : (p : Path) → (list_any (λ q. strictly_below q p) (keys (map_values group_of m)) ≡ true) ↔ HasBelow m p
