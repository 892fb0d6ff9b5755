-- Words by number, sums over leaves, and what an event changes in a hand.
use Rattle.std.proofs.Common.{◌≡◌, ◌≢◌, ◌↔◌, ℕ, zero, suc, ◌+◌, ◌*◌, ◌/◌, ◌<◌, ◌≤◌, Bool, true, false, cond, ◌&&◌, eqb, List, [], ◌∷◌, refl, sym, ap, subst, ◌∙◌, arith}
use Rattle.std.specs.Prelude.{slice_index}
use Rattle.std.proofs.Math.Nat.{mul-div_cancel_left}
use Rattle.std.proofs.lemmas.Bool.Decides.{nat_tests}
use mathlib.Core.Option.{some}
use lib.ListN.{get_elem?}
use Rattle.snzi_tokens.specs.Listed.{one_at, over_leaves}
use Rattle.snzi_core.specs.declared.event.Event.{Event}
use Rattle.snzi_core.specs.declared.event.Event.TheVariants.{Load, FastAdd, RootAdd, ChildAdd, Leave, StripeAdd, Split, Join}
use Rattle.snzi_core.specs.declared.holding.Holding.{Holding}
use Rattle.snzi_core.specs.declared.holding.Role.TheVariants.{Helper}
use Rattle.snzi_core.specs.Balance.{AtOrBelow, Present, below, here}
use Rattle.snzi_core.specs.Changes.{Gains, Loses, Raises}
use Rattle.snzi_core.specs.CoreState.{CoreState, SameShape, above, node_of, parent_of}
use Rattle.snzi_core.specs.Effect.{after, arrived, ascended, departed, descended}
use Rattle.snzi_core.specs.Lawful.{is_zero, passes_up}
use Rattle.snzi_core.specs.Shape.{leaves}
use Rattle.indicator_laws.specs.Cores.{main_with, paid}

cancelled : (k : ℕ) → 2 * k / 2 ≡ k
cancelled k = mul-div_cancel_left k (let p : 0 < 2 = omega arith in p)

pub halves_is : (k : ℕ) → leaves (2 * k + 1) ≡ k + 1
halves_is k =
    let twice : 2 * k + 1 + 1 ≡ 2 * (k + 1) = omega arith in
    ap (λ (n : ℕ). n / 2) twice ∙ cancelled (k + 1)

-- ---- sums over leaves

pub both_sums : (n : ℕ) (f g : ℕ → ℕ) → over_leaves n (λ j. f j + g j) ≡ over_leaves n f + over_leaves n g
both_sums zero f g = refl
both_sums (suc n) f g = omega (arith, both_sums n f g)

itself : (n : ℕ) → eqb n n ≡ true
itself n = grind (arith, nat_tests)

one_here : (s j : ℕ) → one_at s j s j ≡ 1
one_here s j = λ i. cond (itself s i && itself j i) 1 0

one_there : (s j k : ℕ) → j ≢ k → one_at s j s k ≡ 0
one_there s j k n = (λ i. cond (itself s i && eqb j k) 1 0) ∙ (let f : eqb j k ≡ false = grind (arith, nat_tests) in ap (λ b. cond b 1 0) f)

pub beyond_is : (n s j : ℕ) → n ≤ j → over_leaves n (one_at s j s) ≡ 0
beyond_is zero s j h = refl
beyond_is (suc n) s j h = omega (arith, beyond_is n s j (omega (arith, h)), one_there s j n (let ne : j ≢ n = omega (arith, h) in ne))

-- the sum up to n, whether n is the leaf or after it
within_by : (n s j : ℕ) → ((j < n → over_leaves n (one_at s j s) ≡ 1)) → j < suc n → (b : Bool) → eqb j n ≡ b → over_leaves n (one_at s j s) + one_at s j s n ≡ 1
within_by n s j before h true t =
    let is : j ≡ n = grind (arith, nat_tests) in
    omega (arith, beyond_is n s j (omega (arith, is)), ap (λ k. one_at s j s k) (sym is) ∙ one_here s j)
within_by n s j before h false t =
    let ne : j ≢ n = grind (arith, nat_tests) in
    omega (arith, before (omega (arith, h, ne)), one_there s j n ne)

pub within_is : (n s j : ℕ) → j < n → over_leaves n (one_at s j s) ≡ 1
within_is zero s j h = absurd (omega (arith, h))
within_is (suc n) s j h = within_by n s j (within_is n s j) h (eqb j n) refl

-- ---- hands

pub gain_back : (h k : Holding) (j : ℕ) → Gains j h k ↔ Loses j k h
gain_back h k j = (
  λ g. (sym g.0, (λ i n. sym (g.1 i n)), sym g.2, sym g.3, sym g.4),
  λ l. (sym l.0, (λ i n. sym (l.1 i n)), sym l.2, sym l.3, sym l.4),
)

other_tokens : (i : ℕ) → i ≢ 1 → slice_index (1 ∷ 3 ∷ []) i ≡ slice_index (1 ∷ 2 ∷ []) i
other_tokens zero n = refl
other_tokens (suc zero) n = absurd (n refl)
other_tokens (suc (suc i)) n = refl

pub one_gained : Gains 1 (main_with 0 (1 ∷ 2 ∷ []) (3 ∷ [])) (main_with 0 (1 ∷ 3 ∷ []) (3 ∷ []))
one_gained = (refl, other_tokens, refl, refl, refl)

pub not_two_gained : Gains 1 (main_with 0 (1 ∷ 2 ∷ []) []) (main_with 0 (1 ∷ 4 ∷ []) []) → ⊥
not_two_gained g = omega (arith, g.0)

pub not_gained_elsewhere : Gains 1 (main_with 0 (1 ∷ 2 ∷ []) []) (main_with 0 (2 ∷ 3 ∷ []) []) → ⊥
not_gained_elsewhere g = omega (arith, g.2)

pub not_another_role : Gains 1 (main_with 0 (1 ∷ 2 ∷ []) []) (main_with 1 (1 ∷ 3 ∷ []) []) → ⊥
not_another_role g = let e = g.4 in cc

other_amounts : (i : ℕ) → i ≢ 0 → slice_index (1 ∷ []) i ≡ slice_index (18446744073709551615 ∷ []) i
other_amounts zero n = absurd (n refl)
other_amounts (suc i) n = refl

pub wrapped_around : Raises 0 2 (main_with 0 [] (18446744073709551615 ∷ [])) (main_with 0 [] (1 ∷ []))
wrapped_around = (refl, other_amounts, refl, refl)

pub not_raised_more : Raises 0 2 (main_with 0 [] (5 ∷ [])) (main_with 0 [] (8 ∷ [])) → ⊥
not_raised_more r = omega (arith, r.0)

pub not_raised_tokens : Raises 0 2 (main_with 0 [] (5 ∷ [])) (main_with 0 (1 ∷ []) (7 ∷ [])) → ⊥
not_raised_tokens r = let e = r.2 in cc

-- ---- tokens that are present

-- what main has in the example
abbrev payer : Holding
payer = main_with 1 (0 ∷ 1 ∷ []) (0 ∷ 0 ∷ 0 ∷ 5 ∷ 7 ∷ 0 ∷ 0 ∷ 0 ∷ 100 ∷ 0 ∷ [])

pub at_the_leaf : Present (above paid) paid.hands 1
at_the_leaf = (0, payer, refl, (1, here, omega arith))

pub at_the_root : Present (above paid) paid.hands 0
at_the_root = (0, payer, refl, (1, below 1 (let ne : 0 ≢ 1 = omega arith in ne) here, omega arith))

some_same : (x h : Holding) → some x ≡ some h → x ≡ h
some_same x h e = let is : x ≡ h = cc in is

-- only the word 1 has a token
payer_has : (j : ℕ) → 0 < slice_index (0 ∷ 1 ∷ []) j → j ≡ 1
payer_has zero p = absurd (omega (arith, p))
payer_has (suc zero) p = refl
payer_has (suc (suc j)) p = absurd (omega (arith, p))

tokens_of : (h : Holding) → some (record { role = Helper; tokens = []; amounts = 0 ∷ 0 ∷ 0 ∷ 1 ∷ 2 ∷ 0 ∷ 0 ∷ 0 ∷ 0 ∷ 200 ∷ [] }) ≡ some h → h.tokens ≡ []
tokens_of h e = sym (ap (λ (x : Holding). x.tokens) (some_same (record { role = Helper; tokens = []; amounts = 0 ∷ 0 ∷ 0 ∷ 1 ∷ 2 ∷ 0 ∷ 0 ∷ 0 ∷ 0 ∷ 200 ∷ [] }) h e))

only_word : (id : ℕ) (h : Holding) → get_elem? paid.hands id ≡ some h → (j : ℕ) → 0 < slice_index h.tokens j → j ≡ 1
only_word zero h e j p = let same : h.tokens ≡ 0 ∷ 1 ∷ [] = sym (ap (λ (x : Holding). x.tokens) (some_same payer h e)) in payer_has j (subst (λ (ts : List ℕ). 0 < slice_index ts j) same p)
only_word (suc zero) h e j p = let same : h.tokens ≡ [] = tokens_of h e in let none : 0 < slice_index [] j = subst (λ (ts : List ℕ). 0 < slice_index ts j) same p in absurd (omega (arith, none))
only_word (suc (suc id)) h e j p = cc

climbs : (i j : ℕ) → j ≤ 1 → above paid j ≢ j → (above paid j ≤ 1 → i ≤ above paid j) → i ≤ j
climbs i zero le n f = absurd (n refl)
climbs i (suc zero) le n f = let g : i ≤ 0 = f (let z : 0 ≤ 1 = omega arith in z) in omega (arith, g)
climbs i (suc (suc j)) le n f = absurd (omega (arith, le))

up_to : (i j : ℕ) → AtOrBelow (above paid) i j → j ≤ 1 → i ≤ j
up_to i j here le = omega arith
up_to i j (below k apart rest) le = climbs i k le apart (up_to i (above paid k) rest)

pub not_elsewhere : (i : ℕ) → 1 < i → Present (above paid) paid.hands i → ⊥
not_elsewhere i above_one p =
    let is = only_word p.0 p.1 p.2 p.3.0 p.3.2 in
    omega (arith, up_to i p.3.0 p.3.1 (omega (arith, is)), is, above_one)

-- ---- shapes

either : (k : CoreState) (b : Bool) (x y : CoreState) → SameShape k x → SameShape k y → SameShape k (cond b x y)
either k true x y h g = h
either k false x y h g = g

pub shape_kept : (k : CoreState) (e : Event) → SameShape k (after k e)
shape_kept k (Load hand slot word) = (refl, refl)
shape_kept k (FastAdd hand at) = (refl, refl)
shape_kept k (RootAdd hand slot) = (refl, refl)
shape_kept k (ChildAdd hand at) = either k (is_zero k (node_of k at)) (descended k hand (parent_of k at) (node_of k at)) (arrived k hand (node_of k at)) (refl, refl) (refl, refl)
shape_kept k (Leave hand at) = either k (passes_up k at) (ascended k hand (parent_of k at) (node_of k at)) (departed k hand (node_of k at)) (refl, refl) (refl, refl)
shape_kept k (StripeAdd hand slot stripe n) = (refl, refl)
shape_kept k (Split share) = (refl, refl)
shape_kept k (Join helper) = (refl, refl)
