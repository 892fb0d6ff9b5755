use Rattle.std.proofs.Common.{◌≡◌, true, false, List, length, get_or, set, arith, sym, ap, ◌∙◌, subst}
use Rattle.snzi_core.specs.declared.holding.Holding.{Holding}
use Rattle.snzi_core.specs.declared.holding.Role.TheVariants.{Spent}
use Rattle.snzi_core.specs.Holding.{empty, rejoined}
use Rattle.snzi_core.specs.CoreState.{CoreState, hand_of}
use Rattle.snzi_core.specs.Lawful.{helps, overflows, some_word}
use Rattle.snzi_core.specs.Kept.{IsCore}
use Rattle.snzi_core.proofs.CoreJoins.{helper_tables, main_tables, join_core, whole}
use Rattle.snzi_core.proofs.machine.Core.join.Goals as goal

pub unite-requires-clause-tokens : goal.unite-requires-clause-tokens
unite-requires-clause-tokens g c =
    let k : CoreState = record { slots = c.self.inside.slots; nodes = c.self.inside.nodes; words = c.self.inside.words.items; hands = c.self.inside.hands.items } in
    let live : helps (hand_of k c.args.helper).role ≡ true = subst (λ (s : CoreState). helps (hand_of s c.args.helper).role ≡ true) (sym c.self.view_is) c.requires.live in
    subst (λ (hs : List Holding). length (get_or hs c.args.helper (empty Spent)).tokens ≡ length (get_or hs 0 (empty Spent)).tokens) (sym c.as_mut_slice.ensures.value)
    ((helper_tables k c.self.invariant c.args.helper live).0 ∙ sym (main_tables k c.self.invariant c.args.helper live).0)

pub unite-requires-clause-amounts : goal.unite-requires-clause-amounts
unite-requires-clause-amounts g c =
    let k : CoreState = record { slots = c.self.inside.slots; nodes = c.self.inside.nodes; words = c.self.inside.words.items; hands = c.self.inside.hands.items } in
    let live : helps (hand_of k c.args.helper).role ≡ true = subst (λ (s : CoreState). helps (hand_of s c.args.helper).role ≡ true) (sym c.self.view_is) c.requires.live in
    subst (λ (hs : List Holding). length (get_or hs c.args.helper (empty Spent)).amounts ≡ length (get_or hs 0 (empty Spent)).amounts) (sym c.as_mut_slice.ensures.value)
    ((helper_tables k c.self.invariant c.args.helper live).1 ∙ sym (main_tables k c.self.invariant c.args.helper live).1)

pub invariant_of-self : goal.invariant_of-self
invariant_of-self g c =
    let k : CoreState = record { slots = c.self.inside.slots; nodes = c.self.inside.nodes; words = c.self.inside.words.items; hands = c.self.inside.hands.items } in
    let live : helps (hand_of k c.args.helper).role ≡ true = subst (λ (s : CoreState). helps (hand_of s c.args.helper).role ≡ true) (sym c.self.view_is) c.requires.live in
    let room : some_word k (overflows k c.args.helper) ≡ false = subst (λ (s : CoreState). some_word s (overflows s c.args.helper) ≡ false) (sym c.self.view_is) c.requires.room in
    let united = λ (hs : List Holding). set (set hs 0 (rejoined (get_or hs 0 (empty Spent)) (get_or hs c.args.helper (empty Spent)))) c.args.helper (empty Spent) in
    let is = whole c.unite.new.hands c.self.inside.hands.items c.self.inside.hands.len (omega arith) ∙ c.unite.ensures ∙ ap united c.as_mut_slice.ensures.value in
    subst (λ (hs : List Holding). IsCore (record {
      slots = c.self.inside.slots;
      nodes = c.self.inside.nodes;
      words = c.self.inside.words.items;
      hands = hs;
    })) (sym is) (join_core k c.self.invariant c.args.helper live room)
