-- A lawful event is refused for want of a number alone, and a run that left numbers is one that the core does.
use Rattle.std.proofs.Common.{◌≡◌, ⊎_elim, ℕ, ◌+◌, ◌-◌, ◌^◌, ◌<◌, ◌≤◌, Bool, true, false, not, cond, List, [], ◌∷◌, ◌++◌, set, length}
use Rattle.std.proofs.Common.{sym, refl, ap, ◌∙◌, subst, arith, length-set, length-append, Option, Some, None}
use Rattle.std.specs.Prelude.{nat_le}
use Rattle.std.specs.List.{list_all}
use Rattle.std.proofs.lemmas.Bool.{or_from}
use denote.Bor.{Bor}
use Rattle.snzi_core.specs.declared.event.Event.{Event}
use Rattle.snzi_core.specs.declared.event.Event.TheVariants.{Load, FastAdd, RootAdd, ChildAdd, Leave, StripeAdd, Split, Join}
use Rattle.snzi_tokens.specs.declared.token.Token.{Token}
use Rattle.snzi_core.specs.declared.holding.Holding.{Holding}
use Rattle.snzi_core.specs.declared.holding.Role.TheVariants.{Spent}
use Rattle.snzi_core.specs.declared.unlawful.Unlawful.{Unlawful}
use Rattle.snzi_core.specs.declared.unlawful.Unlawful.TheVariants.{NoNode, NoToken, Cap}
use Rattle.snzi_core.specs.Holding.{out, gain, lose, raise, empty, rejoined}
use Rattle.snzi_core.specs.CoreState.{CoreState as Core, hand_of, node_of, parent_of, root_of, stripe_of}
use Rattle.snzi_core.specs.Lawful.{refuse, refusal, refuses_split, has_token, main_has, is_zero, passes_up, is_crowded}
use Rattle.snzi_core.specs.Effect.{after, arrived, descended, departed, ascended, Runs}
use Rattle.snzi_tree.specs.BoardEvents.{CanSplit, IsLawful, Comes}
use Rattle.snzi_tree.proofs.StepEvents.{passed, below_cap}

split_done : (k : Core) (share : List Token) → CanSplit k share → length k.hands < 2 ^ 32 - 1 → refuses_split k share ≡ None
split_done k share can room =
    let a : out (hand_of k 0).role < 65535 = can.2 in
    let b : length k.hands < 4294967295 = omega (arith, room) in
    passed (not (list_all (has_token k) share)) _ _ (ap not can.0) (passed (not (main_has k share)) _ _ (ap not can.1)
    (passed (is_crowded k) _ _ (or_from (nat_le 65535 (out (hand_of k 0).role)) (nat_le 4294967295 (length k.hands))
    (below_cap (out (hand_of k 0).role) 65535 a) (below_cap (length k.hands) 4294967295 b)) refl))

pub lawful_done : (k : Core) (e : Event) → IsLawful k e → length k.hands < 2 ^ 32 - 1 → refusal k e ≡ None
lawful_done k e lawful room = ⊎_elim
    (λ (p : refusal k e ≡ None). p)
    (λ (p : (share : Bor (List Token)) × (e ≡ Split share) × CanSplit k share.now). subst (λ (f : Event). refusal k f ≡ None) (sym p.1) (split_done k p.0.now p.2 room))
    lawful

longer : (hs : List Holding) (a b : Holding) → length (set hs 0 a ++ b ∷ []) ≡ length hs + 1
longer [] a b = refl
longer (x ∷ xs) a b = let p = length-append xs (b ∷ []) in omega (arith, p)

split_grows : (k : Core) (share : Bor (List Token)) → length (after k (Split share)).hands ≡ length k.hands + 1
split_grows k share = longer k.hands _ _

join_stays : (k : Core) (helper : ℕ) → length (after k (Join helper)).hands ≡ length k.hands
join_stays k helper = length-set (set k.hands 0 (rejoined (hand_of k 0) (hand_of k helper))) helper (empty Spent) ∙ length-set k.hands 0 (rejoined (hand_of k 0) (hand_of k helper))

set_stays : (hs : List Holding) (hand : ℕ) (h : Holding) → length hs ≤ length (set hs hand h)
set_stays hs hand h = let a = length-set hs hand h in omega (arith, a)

arrive_stays : (k : Core) (hand i : ℕ) → length k.hands ≤ length (arrived k hand i).hands
arrive_stays k hand i = set_stays k.hands hand (gain (hand_of k hand) i)

-- no event makes a hand less
grown : (k : Core) (e : Event) → length k.hands ≤ length (after k e).hands
grown k (Load hand slot word) = omega arith
grown k (FastAdd hand at) = arrive_stays k hand (node_of k at)
grown k (RootAdd hand slot) = arrive_stays k hand (root_of k slot)
grown k (ChildAdd hand at) = by_test (is_zero k (node_of k at))
  where
    by_test : (t : Bool) → length k.hands ≤ length (cond t (descended k hand (parent_of k at) (node_of k at)) (arrived k hand (node_of k at))).hands
    by_test true = set_stays k.hands hand (lose (gain (hand_of k hand) (node_of k at)) (parent_of k at))
    by_test false = arrive_stays k hand (node_of k at)
grown k (Leave hand at) = by_test (passes_up k at)
  where
    by_test : (t : Bool) → length k.hands ≤ length (cond t (ascended k hand (parent_of k at) (node_of k at)) (departed k hand (node_of k at))).hands
    by_test true = set_stays k.hands hand (gain (lose (hand_of k hand) (node_of k at)) (parent_of k at))
    by_test false = set_stays k.hands hand (lose (hand_of k hand) (node_of k at))
grown k (StripeAdd hand slot s n) = set_stays k.hands hand (raise (hand_of k hand) (stripe_of k slot s) n)
grown k (Split share) = let a = split_grows k share in omega (arith, a)
grown k (Join helper) = let a = join_stays k helper in omega (arith, a)

comes_grow : (k k' : Core) (es : List Event) → Comes k es k' → length k.hands ≤ length k'.hands
comes_grow k k' [] c = let a = ap (λ (x : Core). length x.hands) c in omega (arith, a)
comes_grow k k' (e ∷ es) c = let a = grown k e in let b = comes_grow (after k e) k' es c.1 in omega (arith, a, b)

pub comes_run : (k k' : Core) (es : List Event) → Comes k es k' → length k'.hands < 2 ^ 32 → Runs k es k'
comes_run k k' [] c few = c
comes_run k k' (e ∷ es) c few =
    let most = comes_grow (after k e) k' es c.1 in (
      ⊎_elim
          (λ (p : refusal k e ≡ None). p)
          (λ (p : (share : Bor (List Token)) × (e ≡ Split share) × CanSplit k share.now).
          let more : length (after k e).hands ≡ length k.hands + 1 = subst (λ (f : Event). length (after k f).hands ≡ length k.hands + 1) (sym p.1) (split_grows k p.0) in
          subst (λ (f : Event). refusal k f ≡ None) (sym p.1) (split_done k p.0.now p.2 (omega (arith, most, more, few))))
          c.0,
      comes_run (after k e) k' es c.1 few,
    )

pub comes_one : (k a b : Core) (es : List Event) → Comes k es a → Comes k es b → a ≡ b
comes_one k a b [] r s = r ∙ sym s
comes_one k a b (e ∷ es) r s = comes_one (after k e) a b es r.1 s.1

skipped : (t : Bool) (u : Unlawful) (rest : Option Unlawful) → t ≡ false → refuse t u rest ≡ rest
skipped t u rest e = ap (λ (b : Bool). refuse b u rest) e

last_test : (t : Bool) (u : Unlawful) → refuse t Cap None ≡ Some u → u ≡ Cap
last_test true u e = cc
last_test false u e = cc

-- what is lawful and refused is refused for want of room alone
pub cap_alone : (k : Core) (e : Event) (u : Unlawful) → refusal k e ≡ Some u → IsLawful k e → u ≡ Cap
cap_alone k e u r lawful = ⊎_elim
    (λ (p : refusal k e ≡ None). cc)
    (λ (p : (share : Bor (List Token)) × (e ≡ Split share) × CanSplit k share.now).
    let q : refuses_split k p.0.now ≡ Some u = subst (λ (f : Event). refusal k f ≡ Some u) p.1 r in
    let one : refuses_split k p.0.now ≡ refuse (not (main_has k p.0.now)) NoToken (refuse (is_crowded k) Cap None) = skipped (not (list_all (has_token k) p.0.now)) NoNode _ (ap not p.2.0) in
    let two : refuse (not (main_has k p.0.now)) NoToken (refuse (is_crowded k) Cap None) ≡ refuse (is_crowded k) Cap None = skipped (not (main_has k p.0.now)) NoToken _ (ap not p.2.1) in
    last_test (is_crowded k) u (sym (one ∙ two) ∙ q))
    lawful
