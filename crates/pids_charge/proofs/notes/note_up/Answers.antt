use Rattle.std.proofs.Common.{arith}
use Rattle.pids_charge.proofs.WalkNotes.{none_noted, note_walks, note_left, one_noted, all_noted, noted_to_top}
use Rattle.pids_charge.proofs.notes.note_up.Goals as goal

pub loop-up-init : goal.loop-up-init
loop-up-init g c = record { bound = omega arith; way = λ p there here. none_noted c.args.tree.now p c.args.row c.new-notes.result c.new-notes.ensures here }

pub row-attr-requires : goal.row-attr-requires
row-attr-requires g c =
    let own = c.requires.group in
    note_walks c.args.tree.now c.known.ensures.prefixes own.path own.there c.loop-up._up c.loop-up.at c.loop-up.notes (c.loop-up.invariant.way own.path own.there own.here)

pub push-requires : goal.push-requires
push-requires g c =
    let own = c.requires.group in
    let left = note_left c.args.tree.now c.known.ensures.prefixes own.path own.there c.loop-up._up c.loop-up.at c.loop-up.notes (c.loop-up.invariant.way own.path own.there own.here) (omega (arith, c.if-at-eq0.false)) in
    let few = c.requires.shallow own.path own.there in
    omega (arith, left, few)

pub loop-up-preserved : goal.loop-up-preserved
loop-up-preserved g c = record {
  bound = omega arith;
  way = λ p there here.
      one_noted c.args.tree.now c.known.ensures.prefixes p there c.loop-up._up c.loop-up.at c.loop-up.notes (c.loop-up.invariant.way p there here) (omega (arith, c.if-at-eq0.false))
      c.up-at.result c.up-at.ensures c.row-attr.result.now c.row-attr.ensures c.push.new.self c.push.ensures;
}

pub up-at-requires : goal.up-at-requires
up-at-requires g c =
    let own = c.requires.group in
    note_walks c.args.tree.now c.known.ensures.prefixes own.path own.there c.loop-up._up c.loop-up.at c.loop-up.notes (c.loop-up.invariant.way own.path own.there own.here)

pub returns-then-at-eq0 : goal.returns-then-at-eq0
returns-then-at-eq0 g c = λ p there here.
    noted_to_top c.args.tree.now c.known.ensures.prefixes p there c.loop-up._up c.loop-up.at c.loop-up.notes (c.loop-up.invariant.way p there here) (omega (arith, c.if-at-eq0.true))

pub returns-after-loop-up : goal.returns-after-loop-up
returns-after-loop-up g c = λ p there here.
    let short = c.requires.shallow p there in
    all_noted c.args.tree.now c.known.ensures.prefixes p there c.loop-up._up c.loop-up.at c.loop-up.notes (c.loop-up.invariant.way p there here) (omega (arith, short, c.loop-up-test.false))
