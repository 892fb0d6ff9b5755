use Rattle.std.proofs.Common.{◌≡◌, ℕ, ◌-◌, ◌<◌, length, arith, sym, subst}
use Rattle.std.proofs.lemmas.List.Elements.{All-push}
use Rattle.snzi_tokens.specs.declared.token.Token.{Token}
use Rattle.snzi_tokens.specs.Listed.{IsWithin, listed_at}
use Rattle.pids_charge.proofs.OneMore.{one_token_more}
use Rattle.pids_charge.proofs.WalkCharges.{none_charged, one_charged, slot_low, walks, all_charged, at_top}
use Rattle.pids_charge.proofs.walk.push_up.Goals as goal

pub loop-up-init : goal.loop-up-init
loop-up-init g c = record {
  bound = omega arith;
  way = λ p there here. none_charged c.args.tree.now p c.args.leaf c.args.row (listed_at c.args.tokens.now.items) (length c.args.tokens.now.items) here;
  within = c.requires.within;
}

pub up-at-requires : goal.up-at-requires
up-at-requires g c =
    let own = c.requires.group in
    walks c.args.tree.now c.known.ensures.prefixes own.path own.there c.args.leaf c.loop-up._up c.loop-up.at (listed_at c.args.tokens.now.items) (listed_at c.loop-up.tokens.items) (length c.args.tokens.now.items) (length c.loop-up.tokens.items) (c.loop-up.invariant.way own.path own.there own.here)

pub loop-up-preserved : goal.loop-up-preserved
loop-up-preserved g c =
    let own = c.requires.group in
    let low = slot_low c.args.tree.now c.known.ensures.prefixes own.path own.there c.args.leaf c.loop-up._up c.loop-up.at (listed_at c.args.tokens.now.items) (listed_at c.loop-up.tokens.items) (length c.args.tokens.now.items) (length c.loop-up.tokens.items) (c.loop-up.invariant.way own.path own.there own.here) g.M.Meter.SLOTS c.requires.slots (omega (arith, c.if-at-eq0.false)) in
    let token : Token = record { slot = c.loop-up.at - 1; leaf = c.args.leaf } in
    record {
      bound = omega arith;
      way = λ p there here.
          one_charged c.args.tree.now c.known.ensures.prefixes p there c.args.leaf c.loop-up._up c.loop-up.at (listed_at c.args.tokens.now.items) (listed_at c.loop-up.tokens.items) (length c.args.tokens.now.items) (length c.loop-up.tokens.items) (c.loop-up.invariant.way p there here) (omega (arith, c.if-at-eq0.false))
          c.up-at.result c.up-at.ensures (listed_at c.push.new.self.items) (length c.push.new.self.items)
          (one_token_more c.loop-up.tokens.items c.push.new.self.items token c.in_ok-push.ensures.items) (omega (arith, c.in_ok-push.ensures.len));
      within = subst (IsWithin g.M.Meter.SLOTS g.M.Meter.LEAVES) (sym c.in_ok-push.ensures.items)
          (All-push (λ (t : Token). (t.slot < g.M.Meter.SLOTS)
          × (t.leaf < g.M.Meter.LEAVES)) c.loop-up.tokens.items token c.loop-up.invariant.within (low, c.requires.leaf_below));
    }

pub returns-then-at-eq0-clause-counted : goal.returns-then-at-eq0-clause-counted
returns-then-at-eq0-clause-counted g c = λ p there here.
    let way = c.loop-up.invariant.way p there here in
    (all_charged c.args.tree.now c.known.ensures.prefixes p there c.args.leaf c.loop-up._up c.loop-up.at (listed_at c.args.tokens.now.items) (listed_at c.loop-up.tokens.items) (length c.args.tokens.now.items) (length c.loop-up.tokens.items) way (at_top c.args.tree.now c.known.ensures.prefixes p there c.args.leaf c.loop-up._up c.loop-up.at (listed_at c.args.tokens.now.items) (listed_at c.loop-up.tokens.items) (length c.args.tokens.now.items) (length c.loop-up.tokens.items) way (omega (arith, c.if-at-eq0.true)))).0

pub returns-then-at-eq0-clause-many : goal.returns-then-at-eq0-clause-many
returns-then-at-eq0-clause-many g c = λ p there here.
    let way = c.loop-up.invariant.way p there here in
    (all_charged c.args.tree.now c.known.ensures.prefixes p there c.args.leaf c.loop-up._up c.loop-up.at (listed_at c.args.tokens.now.items) (listed_at c.loop-up.tokens.items) (length c.args.tokens.now.items) (length c.loop-up.tokens.items) way (at_top c.args.tree.now c.known.ensures.prefixes p there c.args.leaf c.loop-up._up c.loop-up.at (listed_at c.args.tokens.now.items) (listed_at c.loop-up.tokens.items) (length c.args.tokens.now.items) (length c.loop-up.tokens.items) way (omega (arith, c.if-at-eq0.true)))).1

pub returns-after-loop-up-clause-counted : goal.returns-after-loop-up-clause-counted
returns-after-loop-up-clause-counted g c = λ p there here.
    let way = c.loop-up.invariant.way p there here in
    let short = c.requires.shallow p there in
    (all_charged c.args.tree.now c.known.ensures.prefixes p there c.args.leaf c.loop-up._up c.loop-up.at (listed_at c.args.tokens.now.items) (listed_at c.loop-up.tokens.items) (length c.args.tokens.now.items) (length c.loop-up.tokens.items) way (omega (arith, short, c.loop-up-test.false))).0

pub returns-after-loop-up-clause-many : goal.returns-after-loop-up-clause-many
returns-after-loop-up-clause-many g c = λ p there here.
    let way = c.loop-up.invariant.way p there here in
    let short = c.requires.shallow p there in
    (all_charged c.args.tree.now c.known.ensures.prefixes p there c.args.leaf c.loop-up._up c.loop-up.at (listed_at c.args.tokens.now.items) (listed_at c.loop-up.tokens.items) (length c.args.tokens.now.items) (length c.loop-up.tokens.items) way (omega (arith, short, c.loop-up-test.false))).1
