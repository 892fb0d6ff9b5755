use Rattle.std.proofs.Common.{◌≡◌, List, length, arith, sym, ap, ◌∙◌, subst}
use Rattle.snzi_core.specs.declared.holding.Holding.{Holding}
use Rattle.snzi_core.specs.Holding.{tokens_at}
use Rattle.snzi_core.specs.CoreState.{CoreState}
use Rattle.snzi_core.specs.Kept.{IsCore}
use Rattle.snzi_core.proofs.CoreSteps.{found}
use Rattle.snzi_core.proofs.CoreJoins.{first_tables}
use Rattle.snzi_core.proofs.CoreSplits.{split_lawful, split_core, split_is, main_live, length_counts, fits}
use Rattle.snzi_core.proofs.machine.Core.split.Goals as goal

pub give-requires-clause-len : goal.give-requires-clause-len
give-requires-clause-len g c =
    let now : CoreState = c.args.self.now in
    let k : CoreState = record { slots = c.self.inside.slots; nodes = c.self.inside.nodes; words = c.self.inside.words.items; hands = c.reserve.new.self.items } in
    let same : k ≡ now = ap (λ (hs : List Holding). record {
      slots = c.self.inside.slots;
      nodes = c.self.inside.nodes;
      words = c.self.inside.words.items;
      hands = hs;
    }) c.in_ok-reserve.ensures.items ∙ c.self.view_is in
    let core : IsCore now = subst IsCore c.self.view_is c.self.invariant in
    let is = found k now 0 c.index_mut.result.now same (main_live now core) c.index_mut.ensures.value in
    ap (λ (h : Holding). length h.tokens) c.in_ok-helper.ensures ∙ length_counts now c.args.share.now ∙ sym (first_tables now core) ∙ sym (ap (λ (h : Holding). length h.tokens) is)

pub give-requires-clause-enough : goal.give-requires-clause-enough
give-requires-clause-enough g c = λ i.
    let now : CoreState = c.args.self.now in
    let k : CoreState = record { slots = c.self.inside.slots; nodes = c.self.inside.nodes; words = c.self.inside.words.items; hands = c.reserve.new.self.items } in
    let same : k ≡ now = ap (λ (hs : List Holding). record {
      slots = c.self.inside.slots;
      nodes = c.self.inside.nodes;
      words = c.self.inside.words.items;
      hands = hs;
    }) c.in_ok-reserve.ensures.items ∙ c.self.view_is in
    let core : IsCore now = subst IsCore c.self.view_is c.self.invariant in
    let is = found k now 0 c.index_mut.result.now same (main_live now core) c.index_mut.ensures.value in
    let a = fits now c.args.share.now (split_lawful now c.args.share.now c.requires).1 i in
    let b = ap (λ (h : Holding). tokens_at i h) c.in_ok-helper.ensures in
    let d = ap (λ (h : Holding). tokens_at i h) is in omega arith

pub invariant_of-self-2 : goal.invariant_of-self-2
invariant_of-self-2 g c =
    let now : CoreState = c.args.self.now in
    let k : CoreState = record { slots = c.self.inside.slots; nodes = c.self.inside.nodes; words = c.self.inside.words.items; hands = c.reserve.new.self.items } in
    let same : k ≡ now = ap (λ (hs : List Holding). record {
      slots = c.self.inside.slots;
      nodes = c.self.inside.nodes;
      words = c.self.inside.words.items;
      hands = hs;
    }) c.in_ok-reserve.ensures.items ∙ c.self.view_is in
    let core : IsCore now = subst IsCore c.self.view_is c.self.invariant in
    let is = found k now 0 c.index_mut.result.now same (main_live now core) c.index_mut.ensures.value in
    let lawful = split_lawful now c.args.share.now c.requires in
    let after = split_is k now c.args.share.now c.index_mut.result.now c.in_ok-helper.helper c.give.new.self same is c.in_ok-helper.ensures c.give.ensures in
    subst IsCore (sym (ap (λ (hs : List Holding). record {
      slots = c.self.inside.slots;
      nodes = c.self.inside.nodes;
      words = c.self.inside.words.items;
      hands = hs;
    }) c.in_ok-push.ensures.items
    ∙ after)) (split_core now c.args.share.now core lawful.1 lawful.2)
