use Rattle.std.proofs.Common.{◌≡◌, ◌-◌, List, ℕ, arith, sym, subst}
use Rattle.pids_charge.proofs.FreeSlots.{AreFreeFrom, none_free, one_more_free, all_free}
use Rattle.pids_charge.proofs.charges.all_slots.Goals as goal

pub loop-slot-init : goal.loop-slot-init
loop-slot-init g c = record {
  bound = omega arith;
  free = subst (λ (free : List ℕ). AreFreeFrom c.args.slots c.args.slots free) (sym c.in_ok-free.ensures.items) (none_free c.args.slots);
  room = omega (arith, c.in_ok-free.ensures.capacity, c.from.ensures);
}

pub loop-slot-preserved : goal.loop-slot-preserved
loop-slot-preserved g c = record {
  bound = omega arith;
  free = subst (λ (free : List ℕ). AreFreeFrom (c.loop-slot.slot - 1) c.args.slots free) (sym c.in_ok-push.ensures.items)
      (one_more_free c.loop-slot.slot c.args.slots c.loop-slot.free.items (omega arith) c.loop-slot.invariant.bound
      c.loop-slot.invariant.free);
  room = omega (arith, c.loop-slot.invariant.room, c.in_ok-push.ensures.capacity);
}

pub returns-clause-free : goal.returns-clause-free
returns-clause-free g c =
    let none : c.loop-slot.slot ≡ 0 = omega (arith, c.loop-slot-test.false) in
    all_free c.args.slots c.loop-slot.free.items (subst (λ (n : ℕ). AreFreeFrom n c.args.slots c.loop-slot.free.items) none c.loop-slot.invariant.free)
