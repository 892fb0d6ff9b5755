use Rattle.std.proofs.Common.{◌≡◌, ℕ, length, sum_by, ap, ◌∙◌, arith}
use Rattle.snzi_tokens.specs.Listed.{one_at}
use Rattle.pids_charge.specs.Content.{Content}
use Rattle.pids_charge.specs.Recount.{with_charges}
use Rattle.pids_charge.proofs.WalkNotes.{below_noted, charges_noted, reached_noted}
use Rattle.pids_charge.proofs.PeakRises.{raised_set}
use Rattle.pids_charge.proofs.peaks.charge_noted.Goals as goal

pub charge_slots-requires-clause-slots_below : goal.charge_slots-requires-clause-slots_below
charge_slots-requires-clause-slots_below g c =
    let own = c.requires.group in
    rw c.slots-slots.ensures (below_noted c.args.tree.now own.path c.args.notes.now (c.requires.noted own.path own.there own.here) own.there
    c.known.ensures.prefixes g.M.Meter.SLOTS c.requires.slots)

pub reach-requires-clause-slots_below : goal.reach-requires-clause-slots_below
reach-requires-clause-slots_below g c =
    let own = c.requires.group in
    rw c.slots-slots.ensures (below_noted c.args.tree.now own.path c.args.notes.now (c.requires.noted own.path own.there own.here) own.there
    c.known.ensures.prefixes g.M.Meter.SLOTS c.requires.slots)

pub returns-clause-content : goal.returns-clause-content
returns-clause-content g c = λ p there here s j.
    let same = ap (λ (x : Content). x s j) c.reach.ensures.content in
    let slots = ap (sum_by (λ slot. one_at slot c.args.leaf s j)) c.slots-slots.ensures in
    omega (arith, same, slots, c.charge_slots.ensures.content s j, charges_noted c.args.tree.now p c.args.notes.now (c.requires.noted p there here) c.args.leaf s j)

pub returns-clause-raised : goal.returns-clause-raised
returns-clause-raised g c = λ p there here.
    let tree = c.args.tree.now in
    let noted = c.requires.noted p there here in
    let final = with_charges tree p c.args.leaf (g.M.Meter.content c.args.meter.now) in
    let charged : (s j : ℕ) → g.M.Meter.content c.charge_slots.new.meter s j ≡ final s j = λ s j.
    let slots = ap (sum_by (λ slot. one_at slot c.args.leaf s j)) c.slots-slots.ensures in
    omega (arith, slots, c.charge_slots.ensures.content s j, charges_noted tree p c.args.notes.now noted c.args.leaf s j) in
    let up = reached_noted tree p c.args.notes.now noted there c.known.ensures.prefixes g.M.Meter.LEAVES
    (g.M.Meter.content c.charge_slots.new.meter) final charged c.reach.new.reached
    (c.reach.ensures.many ∙ ap length c.slots-slots.ensures) (rw (c.slots-slots.ensures, c.peaks-peaks.ensures.same) at c.reach.ensures.each) in
    raised_set g.M.Meter.LEAVES final tree p c.reach.new.reached up c.raise_along.new.tree (c.raise_along.ensures.set p there here)
