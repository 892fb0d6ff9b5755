use Rattle.std.proofs.Common.{◌≡◌, ◌≤◌, ℕ, List, IsSome, length, arith, sym, ap, ◌∙◌, subst}
use Rattle.std.specs.FinMap as fin
use Rattle.std.specs.Map.{values_of}
use Rattle.std.proofs.lemmas.List.Elements.{All-weaker}
use Rattle.flat_model.specs.Path.{Path}
use Rattle.group_tree.specs.Groups.{Groups}
use Rattle.pids_charge.specs.Content.{Content}
use Rattle.pids_charge.specs.Lists.{Row, row_at}
use Rattle.pids_charge.specs.Recount.{IsPlaced, SlotsBelow, HasSlots, Recounted, state_of}
use Rattle.pids_charge.specs.Table.{table_at, table_held}
use Rattle.pids_charge.specs.declared.plain.TheConstants.{SLOTS, LEAVES}
use Rattle.pids_charge.proofs.MeterContents.{held_small}
use Rattle.pids_charge.proofs.RowsAt.{one_home}
use Rattle.pids_charge.proofs.TableCopies.{same_state, recounted}
use Rattle.pids_charge.proofs.charges.Charges.copy_plain.Goals as goal

pub copy_each-requires-clause-one : goal.copy_each-requires-clause-one
copy_each-requires-clause-one g c =
    one_home g.M.Meter.SLOTS c.self.inside.tree c.self.inside.free.items c.self.invariant.has_slots g.M.Meter.LEAVES c.self.inside.processes c.self.invariant.recounted.placed

pub copy_each-requires-clause-homes : goal.copy_each-requires-clause-homes
copy_each-requires-clause-homes g c =
    All-weaker (λ p. IsPlaced g.M.Meter.LEAVES c.self.inside.tree p) (λ p. IsSome (fin.get c.in_ok-tree.tree p.home) × (p.row ≡ row_at c.in_ok-tree.tree p.home))
    (λ p h. subst (λ (t : Groups). IsSome (fin.get t p.home) × (p.row ≡ row_at t p.home)) (sym c.in_ok-tree.ensures) (h.home, h.row))
    (values_of c.self.inside.processes) c.self.invariant.recounted.placed

pub copy_each-requires-clause-slots : goal.copy_each-requires-clause-slots
copy_each-requires-clause-slots g c =
    subst (SlotsBelow SLOTS) (sym c.in_ok-tree.ensures) (subst (λ (n : ℕ). SlotsBelow n c.self.inside.tree) c.requires c.self.invariant.has_slots.below)

pub copy_each-requires-clause-shallow : goal.copy_each-requires-clause-shallow
copy_each-requires-clause-shallow g c = subst (λ (t : Groups). (p : Path) → IsSome (fin.get t p) → length p ≤ 32) (sym c.in_ok-tree.ensures) c.self.invariant.has_slots.shallow

pub copy_each-requires-clause-room : goal.copy_each-requires-clause-room
copy_each-requires-clause-room g c =
    omega (arith, c.in_ok-meter.ensures.empty.none, c.self.invariant.recounted.held_is, held_small _ _ _ _ _ c.self.invariant.recounted c.self.invariant.has_slots.shallow)

pub invariant_of-result : goal.invariant_of-result
invariant_of-result g c =
    let es = c.self.inside.processes in
    let tree = c.in_ok-tree.tree in
    let content : Content = g.M.Meter.content c.self.inside.meter in
    let held : ℕ = g.M.Meter.held c.self.inside.meter in
    let content2 : Content = table_at c.copy_each.new.meter in
    let held2 : ℕ = table_held c.copy_each.new.meter in
    record {
      has_slots = subst (λ (t : Groups). HasSlots SLOTS t c.in_ok-free.free.items) (sym c.in_ok-tree.ensures)
          (subst (λ (free : List ℕ). HasSlots SLOTS c.self.inside.tree free) (sym c.in_ok-free.ensures.items)
          (subst (λ (n : ℕ). HasSlots n c.self.inside.tree c.self.inside.free.items) c.requires c.self.invariant.has_slots));
      room = omega (arith, c.requires, c.SLOTS.ensures, c.in_ok-free.ensures.room);
      recounted = subst (λ (rows : List (Row g.row.B.Denot)). Recounted LEAVES tree rows content2 held2) (sym c.in_ok-processes.ensures.rows)
          (recounted g.row.B.Denot LEAVES g.M.Meter.LEAVES tree es content2 content held2 held
          (subst (λ (t : Groups). Recounted g.M.Meter.LEAVES t es content held) (sym c.in_ok-tree.ensures) c.self.invariant.recounted) (omega arith)
          (λ s j. omega (arith, c.in_ok-processes.ensures.content s j, c.in_ok-meter.ensures.empty.nothing s j))
          (omega (arith, c.in_ok-processes.ensures.held, c.in_ok-meter.ensures.empty.none)));
    }

pub returns : goal.returns
returns g c =
    ap (state_of c.in_ok-tree.tree) c.in_ok-processes.ensures.rows
    ∙ same_state g.row.B.Denot LEAVES c.in_ok-tree.tree c.self.inside.processes
    ∙ ap (λ (t : Groups). state_of t c.self.inside.processes) c.in_ok-tree.ensures ∙ c.self.view_is
