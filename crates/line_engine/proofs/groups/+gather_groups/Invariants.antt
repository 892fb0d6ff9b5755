use Rattle.std.proofs.Common.{◌≡◌, ◌+◌, ◌-◌, ◌++◌, length}
use Rattle.line_engine.specs.Listings.{names_below, paths_bytes}
use Rattle.line_engine.proofs.GroupsBelow.{groups_under, group_and_under}
use Rattle.line_engine.proofs.groups.+gather_groups.Given as goal

abbrev pub decreases-gather_groups : goal.decreases-gather_groups
decreases-gather_groups l = l.levels

abbrev pub invariant-loop-name : goal.invariant-loop-name
invariant-loop-name l = record {
  can : goal.iterator-loop-name.can_next l.name-iterator;
  finite : goal.iterator-loop-name.is_finite l.name-iterator;
  bytes : l.bytes.items ++ paths_bytes (groups_under l.charges (l.levels - 1) l.path l.name-iterator)
      ≡ l.fn.bytes.items ++ paths_bytes (group_and_under l.charges (l.levels - 1) l.path (names_below l.charges l.path));
  count : l.count + length (groups_under l.charges (l.levels - 1) l.path l.name-iterator) ≡ length (group_and_under l.charges (l.levels - 1) l.path (names_below l.charges l.path));
}
