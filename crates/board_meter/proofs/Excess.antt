-- What a hand's amounts are less its tokens, after a charge, a split and a join.
use Rattle.std.proofs.Common.{◌≡◌, ℕ, zero, suc, ◌+◌, ◌-◌, ◌*◌, ◌%◌, ◌^◌, ◌<◌, List, sym, refl, ap, ◌∙◌, subst, arith}
use Rattle.snzi_core.specs.declared.holding.Holding.{Holding}
use Rattle.snzi_tokens.specs.declared.token.Token.{Token}
use Rattle.snzi_core.specs.Changes.{Gains, Loses, Raises}
use Rattle.snzi_core.specs.Holding.{amount_at}
use Rattle.snzi_core.specs.Shape.{stripe_word}
use Rattle.snzi_tree.specs.Contents.{content_of, tokens_in, amounts_to, amount_in, only_in, AddsIn, AtLeaves, token_word}
use Rattle.snzi_tree.proofs.Amounts.{same_amounts}
use Rattle.snzi_tree.proofs.Leaves.{over_same, over_added, gains_in, loses_in}
use Rattle.board_meter.specs.Held.{excess, InStep}

-- modulo 2^64
one_more : (a b t u d : ℕ) → a % 2 ^ 64 ≡ (b + d) % 2 ^ 64 → u ≡ t + d → (a + (2 ^ 64 - 1) * u) % 2 ^ 64 ≡ (b + (2 ^ 64 - 1) * t) % 2 ^ 64
one_more a b t u d e f = omega arith

both : (a b t u : ℕ) → (a + b + (2 ^ 64 - 1) * (t + u)) % 2 ^ 64 ≡ ((a + (2 ^ 64 - 1) * t) % 2 ^ 64 + (b + (2 ^ 64 - 1) * u) % 2 ^ 64) % 2 ^ 64
both a b t u = omega arith

same_amount : (a b x : ℕ) → a % 2 ^ 64 ≡ b % 2 ^ 64 → (a + x) % 2 ^ 64 ≡ (b + x) % 2 ^ 64
same_amount a b x e = omega arith

-- where the stripes have nothing beyond the tokens, they have as many as these
pub level_sum : (a t : ℕ) → (a + (2 ^ 64 - 1) * t) % 2 ^ 64 ≡ 0 → t < 2 ^ 64 → a % 2 ^ 64 ≡ t
level_sum a t e low = omega arith

module _ (w l : ℕ) where
  same_tokens : (m k : Holding) → k.tokens ≡ m.tokens → (s : ℕ) → tokens_in w l k s ≡ tokens_in w l m s
  same_tokens m k e s = ap (λ (xs : List ℕ). tokens_in w l (record { role = k.role; tokens = xs; amounts = k.amounts }) s) e

  pub same_content : (m k : Holding) → k.tokens ≡ m.tokens → (s j : ℕ) → content_of w l k s j ≡ content_of w l m s j
  same_content m k e s j = ap (λ (xs : List ℕ). content_of w l (record { role = k.role; tokens = xs; amounts = k.amounts }) s j) e

  pub same_leaves : (m k : Holding) → k.tokens ≡ m.tokens → AtLeaves w l m → AtLeaves w l k
  same_leaves m k e = subst (λ (xs : List ℕ). AtLeaves w l (record { role = k.role; tokens = xs; amounts = k.amounts })) (sym e)

  no_amounts : (h : Holding) → ((i : ℕ) → amount_at i h ≡ 0) → (s n : ℕ) → amounts_to w l s h n ≡ 0
  no_amounts h e s zero = refl
  no_amounts h e s (suc n) = let a = no_amounts h e s n in let b = e (stripe_word w l s n) in omega arith

-- the two steps of a charge, and those of its end
module _ (w l : ℕ) (shape : l + l ≡ w + 1) (h m k : Holding) (t : Token) (r : ℕ) (below : t.leaf < l) (tidy : AtLeaves w l h → AtLeaves w l m) where
  pub charged : Gains (token_word w l t) h m → Raises (stripe_word w l t.slot r) 1 m k → AddsIn w l t.slot 1 m k → InStep w l h k
  charged g u adds = record {
    excess = λ s.
        let same = same_amounts w l h m g.3 s l in
        let more = gains_in w l shape h m t below g s in
        let kept = same_tokens w l m k u.2 s in
        one_more (amount_in w l k s) (amount_in w l h s) (tokens_in w l h s) (tokens_in w l k s) (only_in t.slot 1 s) (adds s ∙ ap (λ (y : ℕ). (y + only_in t.slot 1 s) % 2 ^ 64) same) (omega arith);
    at_leaves = λ a. same_leaves w l m k u.2 (tidy a);
    role = u.3 ∙ g.4;
  }

  pub uncharged : Loses (token_word w l t) h m → Raises (stripe_word w l t.slot r) 1 k m → AddsIn w l t.slot 1 k m → InStep w l h k
  uncharged g u adds = record {
    excess = λ s.
        let same = same_amounts w l h m g.3 s l in
        let less = loses_in w l shape h m t below g s in
        let kept = same_tokens w l m k (sym u.2) s in
        sym (one_more (amount_in w l h s) (amount_in w l k s) (tokens_in w l k s) (tokens_in w l h s) (only_in t.slot 1 s) (ap (λ (y : ℕ). y % 2 ^ 64) (sym same) ∙ adds s) (omega arith));
    at_leaves = λ a. same_leaves w l m k (sym u.2) (tidy a);
    role = sym u.3 ∙ g.4;
  }

module _ (w l : ℕ) (h m k : Holding) where
  -- the tokens of a hand cut in two, or of two put together
  tokens_both : ((s j : ℕ) → content_of w l h s j ≡ content_of w l m s j + content_of w l k s j) → (s : ℕ) → tokens_in w l h s ≡ tokens_in w l m s + tokens_in w l k s
  tokens_both all s = over_same l (content_of w l h s) (λ j. content_of w l m s j + content_of w l k s j) (all s) ∙ over_added l (content_of w l m s) (content_of w l k s)

  -- h has what m and k have
  pub excess_both : ((s j : ℕ) → content_of w l h s j ≡ content_of w l m s j + content_of w l k s j)
      → ((s : ℕ) → amount_in w l h s % 2 ^ 64 ≡ (amount_in w l m s + amount_in w l k s) % 2 ^ 64) → (s : ℕ)
      → excess w l h s ≡ (excess w l m s + excess w l k s) % 2 ^ 64
  excess_both all total s =
      ap (λ (t : ℕ). (amount_in w l h s + (2 ^ 64 - 1) * t) % 2 ^ 64) (tokens_both all s)
      ∙ same_amount (amount_in w l h s) (amount_in w l m s + amount_in w l k s) ((2 ^ 64 - 1) * (tokens_in w l m s + tokens_in w l k s)) (total s)
      ∙ both (amount_in w l m s) (amount_in w l k s) (tokens_in w l m s) (tokens_in w l k s)

  pub split_excess : ((s j : ℕ) → content_of w l h s j ≡ content_of w l m s j + content_of w l k s j) → m.amounts ≡ h.amounts
      → ((i : ℕ) → amount_at i k ≡ 0) → (s : ℕ) → (excess w l m s + excess w l k s) % 2 ^ 64 ≡ excess w l h s
  split_excess all same none s = sym (excess_both all (λ z.
      let a = same_amounts w l h m same z l in
      let b = no_amounts w l k none z l in
      let c : amount_in w l h z ≡ amount_in w l m z + amount_in w l k z = omega arith in
      ap (λ (y : ℕ). y % 2 ^ 64) c) s)
