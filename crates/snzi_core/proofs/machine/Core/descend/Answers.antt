use Rattle.std.proofs.Common.{ℕ, ◌+◌, ◌^◌, ◌<◌, sym, subst}
use Rattle.snzi_core.specs.declared.holding.Holding.{Holding}
use Rattle.snzi_core.specs.Holding.{tokens_at, gain, lose}
use Rattle.snzi_core.specs.CoreState.{CoreState}
use Rattle.snzi_core.specs.Kept.{IsCore}
use Rattle.snzi_core.proofs.CoreSteps.{closing, found, found_tables}
use Rattle.snzi_core.proofs.machine.Core.descend.Goals as goal

pub descend-requires : goal.descend-requires
descend-requires g c =
    let k : CoreState = record { slots = c.self.inside.slots; nodes = c.self.inside.nodes; words = c.self.inside.words.items; hands = c.self.inside.hands.items } in
    let is = found k c.args.self.now c.args.hand c.index_mut-2.result.now c.self.view_is c.requires.live c.index_mut-2.ensures.value in
    let tables = found_tables k c.args.self.now c.args.hand c.index_mut-2.result.now c.self.view_is c.requires.live c.index_mut-2.ensures.value c.self.invariant in
    record {
      place = ((tables c.args.parent c.requires.place.0).0, (tables c.args.word c.requires.place.1).0, c.requires.place.2);
      room = subst (λ (h : Holding). tokens_at c.args.word h < 2 ^ 40) (sym is) c.requires.room.1;
      token = subst (λ (h : Holding). 0 < tokens_at c.args.parent h) (sym is) c.requires.token;
    }

pub invariant_of-self : goal.invariant_of-self
invariant_of-self g c =
    subst IsCore (sym (closing (record {
      slots = c.self.inside.slots;
      nodes = c.self.inside.nodes;
      words = c.self.inside.words.items;
      hands = c.self.inside.hands.items;
    }) c.args.self.now c.args.word c.args.hand c.index_mut.result.now (λ (x : ℕ). x
    + 1) c.index_mut-2.result.now c.descend.new.self (λ (h : Holding). lose (gain h c.args.word) c.args.parent)
    c.self.view_is c.requires.place.1 c.requires.live c.index_mut.ensures.value c.index_mut-2.ensures.value c.descend.ensures))
    c.requires.kept

pub returns : goal.returns
returns g c = closing (record {
  slots = c.self.inside.slots;
  nodes = c.self.inside.nodes;
  words = c.self.inside.words.items;
  hands = c.self.inside.hands.items;
}) c.args.self.now c.args.word c.args.hand c.index_mut.result.now (λ (x : ℕ). x
    + 1) c.index_mut-2.result.now c.descend.new.self (λ (h : Holding). lose (gain h c.args.word) c.args.parent)
    c.self.view_is c.requires.place.1 c.requires.live c.index_mut.ensures.value c.index_mut-2.ensures.value c.descend.ensures
