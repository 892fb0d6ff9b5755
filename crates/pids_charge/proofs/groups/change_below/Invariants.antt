use Rattle.std.proofs.Common.{◌≡◌, ◌^◌, ◌-◌}
use Rattle.flat_model.specs.Path.{Path}
use Rattle.group_tree.specs.Groups.{Groups}
use Rattle.pids_charge.specs.GroupRows.{IsRowOf, attrs_of, stepped, belows_of, ups_of, with_rows}
use Rattle.pids_charge.proofs.BelowSteps.{IsLeft}
use Rattle.pids_charge.proofs.groups.change_below.Given as goal

abbrev pub invariant-loop-up : goal.invariant-loop-up
invariant-loop-up g l = record {
  attrs : attrs_of l.rows.items ≡ attrs_of l.fn.rows.items;
  ups : ups_of l.rows.items ≡ ups_of l.fn.rows.items;
  left : (tree : Groups) (p : Path) → IsRowOf tree l.fn.rows.items p l.fn.first
      → IsLeft (stepped (2 ^ 32 - 1) l.change) (with_rows tree (attrs_of l.fn.rows.items)) p (belows_of l.fn.rows.items) (belows_of l.rows.items) l._up l.at;
}
