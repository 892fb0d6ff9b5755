use Rattle.std.proofs.Common.{ℕ, ◌-◌, sym, subst}
use Rattle.snzi_core.specs.declared.holding.Holding.{Holding}
use Rattle.snzi_core.specs.Holding.{lose}
use Rattle.snzi_core.specs.Kept.{IsCore}
use Rattle.snzi_core.proofs.CoreSteps.{closing}
use Rattle.snzi_core.proofs.machine.Core.depart.Goals as goal

pub invariant_of-self : goal.invariant_of-self
invariant_of-self g c =
    subst IsCore (sym (closing (record {
      slots = c.self.inside.slots;
      nodes = c.self.inside.nodes;
      words = c.self.inside.words.items;
      hands = c.self.inside.hands.items;
    }) c.args.self.now c.args.word c.args.hand c.index_mut.result.now (λ (x : ℕ). x - 1)
    c.index_mut-2.result.now c.lose.new.self (λ (h : Holding). lose h c.args.word)
    c.self.view_is c.requires.place c.requires.live c.index_mut.ensures.value c.index_mut-2.ensures.value c.lose.ensures))
    c.requires.kept

pub returns : goal.returns
returns g c = closing (record {
  slots = c.self.inside.slots;
  nodes = c.self.inside.nodes;
  words = c.self.inside.words.items;
  hands = c.self.inside.hands.items;
}) c.args.self.now c.args.word c.args.hand c.index_mut.result.now (λ (x : ℕ). x - 1)
    c.index_mut-2.result.now c.lose.new.self (λ (h : Holding). lose h c.args.word)
    c.self.view_is c.requires.place c.requires.live c.index_mut.ensures.value c.index_mut-2.ensures.value c.lose.ensures
