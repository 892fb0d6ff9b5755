use Rattle.std.proofs.Common.{arith}
use Rattle.pids_charge.proofs.WalkCharges.{none_charged, one_charged, one_left, slot_low, walks, all_charged, at_top}
use Rattle.pids_charge.proofs.walk.charge_up.Goals as goal

pub loop-up-init : goal.loop-up-init
loop-up-init g c = record {
  bound = omega arith;
  way = λ p there here. none_charged c.args.tree.now p c.args.leaf c.args.row (g.M.Meter.content c.args.meter.now) (g.M.Meter.held c.args.meter.now) here;
}

pub charge-requires-clause-slot_below : goal.charge-requires-clause-slot_below
charge-requires-clause-slot_below g c =
    let own = c.requires.group in
    slot_low c.args.tree.now c.known.ensures.prefixes own.path own.there c.args.leaf c.loop-up._up c.loop-up.at (g.M.Meter.content c.args.meter.now) (g.M.Meter.content c.loop-up.meter) (g.M.Meter.held c.args.meter.now) (g.M.Meter.held c.loop-up.meter) (c.loop-up.invariant.way own.path own.there own.here) g.M.Meter.SLOTS c.requires.slots (omega (arith, c.if-at-eq0.false))

pub charge-requires-clause-room : goal.charge-requires-clause-room
charge-requires-clause-room g c =
    let own = c.requires.group in
    let left = one_left c.args.tree.now c.known.ensures.prefixes own.path own.there c.args.leaf c.loop-up._up c.loop-up.at (g.M.Meter.content c.args.meter.now) (g.M.Meter.content c.loop-up.meter) (g.M.Meter.held c.args.meter.now) (g.M.Meter.held c.loop-up.meter) (c.loop-up.invariant.way own.path own.there own.here) (omega (arith, c.if-at-eq0.false)) in
    let room = c.requires.room own.path own.there own.here in
    omega (arith, left, room)

pub up-at-requires : goal.up-at-requires
up-at-requires g c =
    let own = c.requires.group in
    walks c.args.tree.now c.known.ensures.prefixes own.path own.there c.args.leaf c.loop-up._up c.loop-up.at (g.M.Meter.content c.args.meter.now) (g.M.Meter.content c.loop-up.meter) (g.M.Meter.held c.args.meter.now) (g.M.Meter.held c.loop-up.meter) (c.loop-up.invariant.way own.path own.there own.here)

pub loop-up-preserved : goal.loop-up-preserved
loop-up-preserved g c = record {
  bound = omega arith;
  way = λ p there here.
      one_charged c.args.tree.now c.known.ensures.prefixes p there c.args.leaf c.loop-up._up c.loop-up.at (g.M.Meter.content c.args.meter.now) (g.M.Meter.content c.loop-up.meter) (g.M.Meter.held c.args.meter.now) (g.M.Meter.held c.loop-up.meter) (c.loop-up.invariant.way p there here) (omega (arith, c.if-at-eq0.false))
      c.up-at.result c.up-at.ensures (g.M.Meter.content c.charge.new.self) (g.M.Meter.held c.charge.new.self) c.charge.ensures.content c.charge.ensures.held;
}

pub returns-then-at-eq0-clause-content : goal.returns-then-at-eq0-clause-content
returns-then-at-eq0-clause-content g c = λ p there here.
    let way = c.loop-up.invariant.way p there here in
    (all_charged c.args.tree.now c.known.ensures.prefixes p there c.args.leaf c.loop-up._up c.loop-up.at (g.M.Meter.content c.args.meter.now) (g.M.Meter.content c.loop-up.meter) (g.M.Meter.held c.args.meter.now) (g.M.Meter.held c.loop-up.meter) way (at_top c.args.tree.now c.known.ensures.prefixes p there c.args.leaf c.loop-up._up c.loop-up.at (g.M.Meter.content c.args.meter.now) (g.M.Meter.content c.loop-up.meter) (g.M.Meter.held c.args.meter.now) (g.M.Meter.held c.loop-up.meter) way (omega (arith, c.if-at-eq0.true)))).0

pub returns-then-at-eq0-clause-held : goal.returns-then-at-eq0-clause-held
returns-then-at-eq0-clause-held g c = λ p there here.
    let way = c.loop-up.invariant.way p there here in
    (all_charged c.args.tree.now c.known.ensures.prefixes p there c.args.leaf c.loop-up._up c.loop-up.at (g.M.Meter.content c.args.meter.now) (g.M.Meter.content c.loop-up.meter) (g.M.Meter.held c.args.meter.now) (g.M.Meter.held c.loop-up.meter) way (at_top c.args.tree.now c.known.ensures.prefixes p there c.args.leaf c.loop-up._up c.loop-up.at (g.M.Meter.content c.args.meter.now) (g.M.Meter.content c.loop-up.meter) (g.M.Meter.held c.args.meter.now) (g.M.Meter.held c.loop-up.meter) way (omega (arith, c.if-at-eq0.true)))).1

pub returns-after-loop-up-clause-content : goal.returns-after-loop-up-clause-content
returns-after-loop-up-clause-content g c = λ p there here.
    let way = c.loop-up.invariant.way p there here in
    let short = c.requires.shallow p there in
    (all_charged c.args.tree.now c.known.ensures.prefixes p there c.args.leaf c.loop-up._up c.loop-up.at (g.M.Meter.content c.args.meter.now) (g.M.Meter.content c.loop-up.meter) (g.M.Meter.held c.args.meter.now) (g.M.Meter.held c.loop-up.meter) way (omega (arith, short, c.loop-up-test.false))).0

pub returns-after-loop-up-clause-held : goal.returns-after-loop-up-clause-held
returns-after-loop-up-clause-held g c = λ p there here.
    let way = c.loop-up.invariant.way p there here in
    let short = c.requires.shallow p there in
    (all_charged c.args.tree.now c.known.ensures.prefixes p there c.args.leaf c.loop-up._up c.loop-up.at (g.M.Meter.content c.args.meter.now) (g.M.Meter.content c.loop-up.meter) (g.M.Meter.held c.args.meter.now) (g.M.Meter.held c.loop-up.meter) way (omega (arith, short, c.loop-up-test.false))).1
