use Rattle.std.proofs.Common.{◌≡◌, ℕ, ◌-◌, ◌<◌, ◌++◌, ◌∷◌, [], List, length, take, get_or, arith, sym, ap, ◌∙◌, subst}
use Rattle.std.specs.FinMap as fin
use Rattle.flat_model.specs.Path.{parent}
use Rattle.group_tree.specs.declared.attr.Attr.{Attr}
use Rattle.group_tree.specs.Groups.{Groups, IsClosed}
use Rattle.pids_charge.specs.Recount.{HasSlots}
use Rattle.group_tree.specs.Flat.{group_of}
use Rattle.pids_charge.proofs.InRows.{in_that_case}
use Rattle.pids_charge.proofs.Slots.{has_names, has_slots, not_mapped, not_used, was_free, last-is, kept}
use Rattle.pids_charge.proofs.MeterContents.{grown_tree}
use Rattle.pids_charge.proofs.FlatGroups.{group-get, len-is, there-is}
use Rattle.pids_charge.proofs.LimitWrites.{written-is}
use Rattle.pids_charge.proofs.charges.Charges.put_group_back.Goals as goal

pub overflow_sub-last : goal.overflow_sub-last
overflow_sub-last g c =
    omega (arith, c.self.invariant.has_slots.whole, len-is c.self.inside.tree c.self.inside.processes c.args.self.now c.self.view_is, c.requires.slot, c.len-last.ensures)

pub index-slot-requires : goal.index-slot-requires
index-slot-requires g c =
    omega (arith, c.self.invariant.has_slots.whole, len-is c.self.inside.tree c.self.inside.processes c.args.self.now c.self.view_is, c.requires.slot, c.len-last.ensures)

pub row_above-above-requires-clause-parent : goal.row_above-above-requires-clause-parent
row_above-above-requires-clause-parent g c = there-is c.args.self.now c.self.inside.tree c.self.inside.processes c.self.view_is (parent c.args.path.now) c.requires.parent

pub row_above-above-requires-clause-below_root : goal.row_above-above-requires-clause-below_root
row_above-above-requires-clause-below_root g c = has_names c.self.inside.tree c.self.invariant.has_slots.closed c.args.path.now
    (not_mapped group_of (fin.get c.self.inside.tree c.args.path.now) (group-get c.args.self.now c.self.inside.tree c.self.inside.processes c.self.view_is c.args.path.now ∙ c.requires.new))

pub insert-made-requires-clause-few : goal.insert-made-requires-clause-few
insert-made-requires-clause-few g c =
    omega (arith, c.self.invariant.has_slots.few, len-is c.self.inside.tree c.self.inside.processes c.args.self.now c.self.view_is, c.requires.slot)

pub insert-made-requires-clause-slot : goal.insert-made-requires-clause-slot
insert-made-requires-clause-slot g c =
    let h = c.self.invariant.has_slots in
    let free : List ℕ = c.self.inside.free.items in
    let pos : 0 < length free = omega (arith, h.whole, len-is c.self.inside.tree c.self.inside.processes c.args.self.now c.self.view_is, c.requires.slot) in
    let many : c.len-last.result ≡ length free = omega (arith, c.len-last.ensures) in
    let now : ℕ = c.index-slot.result.now in
    let split : free ≡ take (length free - 1) free ++ now ∷ [] =
    last-is free now now pos (sym (c.index-slot.ensures ∙ ap (λ n. get_or free (n - 1) now) many)) in
    omega (arith, was_free g.M.Meter.SLOTS c.self.inside.tree free h now (take (length free - 1) free) split, h.few)

pub insert-made-requires-clause-below_root : goal.insert-made-requires-clause-below_root
insert-made-requires-clause-below_root g c = has_names c.self.inside.tree c.self.invariant.has_slots.closed c.args.path.now
    (not_mapped group_of (fin.get c.self.inside.tree c.args.path.now) (group-get c.args.self.now c.self.inside.tree c.self.inside.processes c.self.view_is c.args.path.now ∙ c.requires.new))

pub insert-made-requires-clause-absent : goal.insert-made-requires-clause-absent
insert-made-requires-clause-absent g c =
    not_mapped group_of (fin.get c.self.inside.tree c.args.path.now) (group-get c.args.self.now c.self.inside.tree c.self.inside.processes c.self.view_is c.args.path.now ∙ c.requires.new)

pub insert-made-requires-clause-parent : goal.insert-made-requires-clause-parent
insert-made-requires-clause-parent g c = there-is c.args.self.now c.self.inside.tree c.self.inside.processes c.self.view_is (parent c.args.path.now) c.requires.parent

pub insert-made-requires-clause-free : goal.insert-made-requires-clause-free
insert-made-requires-clause-free g c =
    let h = c.self.invariant.has_slots in
    let free : List ℕ = c.self.inside.free.items in
    let pos : 0 < length free = omega (arith, h.whole, len-is c.self.inside.tree c.self.inside.processes c.args.self.now c.self.view_is, c.requires.slot) in
    let many : c.len-last.result ≡ length free = omega (arith, c.len-last.ensures) in
    let now : ℕ = c.index-slot.result.now in
    let split : free ≡ take (length free - 1) free ++ now ∷ [] =
    last-is free now now pos (sym (c.index-slot.ensures ∙ ap (λ n. get_or free (n - 1) now) many)) in
    let x : Attr = record { limits = c.args.attr.limits; local = c.args.attr.local; total = c.args.attr.total; peak = c.args.attr.peak; slot = c.index-slot.result.now } in
    let gone = not_mapped group_of (fin.get c.self.inside.tree c.args.path.now) (group-get c.args.self.now c.self.inside.tree c.self.inside.processes c.self.view_is c.args.path.now ∙ c.requires.new) in
    λ q named there. not_used g.M.Meter.SLOTS c.self.inside.tree free h c.args.path.now x (take (length free - 1) free) split gone q named there

pub invariant_of-self-2 : goal.invariant_of-self-2
invariant_of-self-2 g c =
    let h = c.self.invariant.has_slots in
    let free : List ℕ = c.self.inside.free.items in
    let x : Attr = record { limits = c.args.attr.limits; local = c.args.attr.local; total = c.args.attr.total; peak = c.args.attr.peak; slot = c.index-slot.result.now } in
    let absent = not_mapped group_of (fin.get c.self.inside.tree c.args.path.now) (group-get c.args.self.now c.self.inside.tree c.self.inside.processes c.self.view_is c.args.path.now ∙ c.requires.new) in
    let grown = in_that_case c.insert-made.result (sym c.is_err.ensures.value ∙ c.if-is_err.false) c.insert-made.ensures.made in
    let pos : 0 < length free = omega (arith, h.whole, len-is c.self.inside.tree c.self.inside.processes c.args.self.now c.self.view_is, c.requires.slot) in
    let many : c.len-last.result ≡ length free = omega (arith, c.len-last.ensures) in
    let now : ℕ = c.index-slot.result.now in
    let split : free ≡ take (length free - 1) free ++ x.slot ∷ [] =
    last-is free now now pos (sym (c.index-slot.ensures ∙ ap (λ n. get_or free (n - 1) now) many)) in
    let gone : c.truncate.new.self.items ≡ take (length free - 1) free = c.truncate.ensures.items ∙ ap (λ n. take (n - 1) free) many in
    let made : HasSlots g.M.Meter.SLOTS (fin.insert c.self.inside.tree c.args.path.now x) (take (length free - 1) free) =
    has_slots g.M.Meter.SLOTS c.self.inside.tree free h c.args.path.now x (take (length free - 1) free) split absent (subst IsClosed grown c.known-3.ensures.closed) c.known.ensures.shallow in
    record {
      has_slots = subst (λ (t : Groups). HasSlots g.M.Meter.SLOTS t c.truncate.new.self.items) (sym grown)
          (subst (λ (f : List ℕ). HasSlots g.M.Meter.SLOTS (fin.insert c.self.inside.tree c.args.path.now x) f) (sym gone) made);
      room = omega (arith, c.self.invariant.room, c.truncate.ensures.capacity);
      recounted = grown_tree g.M.Meter.LEAVES c.self.inside.tree c.self.inside.processes (g.M.Meter.content c.self.inside.meter)
          (g.M.Meter.held c.self.inside.meter) c.self.invariant.recounted c.insert-made.new.self
          (λ q i. ap (λ (t : Groups). fin.get t q) grown ∙ kept c.self.inside.tree c.args.path.now x absent q i) c.known-2.ensures.prefixes;
    }

pub returns-clause-restored : goal.returns-clause-restored
returns-clause-restored g c =
    let x : Attr = record { limits = c.args.attr.limits; local = c.args.attr.local; total = c.args.attr.total; peak = c.args.attr.peak; slot = c.index-slot.result.now } in
    let absent = not_mapped group_of (fin.get c.self.inside.tree c.args.path.now) (group-get c.args.self.now c.self.inside.tree c.self.inside.processes c.self.view_is c.args.path.now ∙ c.requires.new) in
    let grown = in_that_case c.insert-made.result (sym c.is_err.ensures.value ∙ c.if-is_err.false) c.insert-made.ensures.made in
    written-is c.args.self.now c.self.inside.tree c.self.inside.processes c.self.view_is c.insert-made.new.self c.args.path.now x grown
