-- What a hand has in the stripes of a slot.
use Rattle.std.proofs.Common.{◌≡◌, ◌≢◌, ℕ, zero, suc, ◌+◌, ◌%◌, ◌^◌, ◌<◌, ◌≤◌, Bool, cond, List, sym, refl, ap, ◌∙◌, subst, arith, eq-eqb, ne_eqb}
use Rattle.std.proofs.Math.Nat.{mod-add-mod, add-mod-mod}
use Rattle.std.specs.Prelude.{slice_index}
use mathlib.Core.Logic.{dite}
use native.Mathlib.Decide.{ℕ_discrete}
use Rattle.snzi_core.specs.declared.holding.Holding.{Holding}
use Rattle.snzi_core.specs.Changes.{Raises}
use Rattle.snzi_core.specs.Holding.{amount_at}
use Rattle.snzi_core.specs.Shape.{stripe_word}
use Rattle.snzi_tree.specs.Contents.{amounts_to, only_in, AddsIn}
use Rattle.snzi_tree.proofs.WordPlaces.{same_place}

-- modulo 2^64
raised_left : (a b x n : ℕ) → a % 2 ^ 64 ≡ (b + n) % 2 ^ 64 → (a + x) % 2 ^ 64 ≡ (b + x + n) % 2 ^ 64
raised_left a b x n e = sym (mod-add-mod a (2 ^ 64) x) ∙ ap (λ (y : ℕ). (y + x) % 2 ^ 64) e ∙ mod-add-mod (b + n) (2 ^ 64) x
    ∙ (let q : b + n + x ≡ b + x + n = omega arith in ap (λ (y : ℕ). y % 2 ^ 64) q)

raised_right : (x a b n : ℕ) → a % 2 ^ 64 ≡ (b + n) % 2 ^ 64 → (x + a) % 2 ^ 64 ≡ (x + b + n) % 2 ^ 64
raised_right x a b n e = sym (add-mod-mod x a (2 ^ 64)) ∙ ap (λ (y : ℕ). (x + y) % 2 ^ 64) e ∙ add-mod-mod x (b + n) (2 ^ 64)
    ∙ (let q : x + (b + n) ≡ x + b + n = omega arith in ap (λ (y : ℕ). y % 2 ^ 64) q)

both_more : (a b c x y z : ℕ) → a % 2 ^ 64 ≡ (b + c) % 2 ^ 64 → x % 2 ^ 64 ≡ (y + z) % 2 ^ 64 → (a + x) % 2 ^ 64 ≡ (b + y + (c + z)) % 2 ^ 64
both_more a b c x y z e f = omega arith

module _ (w l : ℕ) where
  pub same_amounts : (h k : Holding) → k.amounts ≡ h.amounts → (s n : ℕ) → amounts_to w l s k n ≡ amounts_to w l s h n
  same_amounts h k e s zero = refl
  same_amounts h k e s (suc n) = let a = same_amounts h k e s n in
      let b : amount_at (stripe_word w l s n) k ≡ amount_at (stripe_word w l s n) h =
      ap (λ (xs : List ℕ). slice_index xs (stripe_word w l s n)) e in omega arith

  pub joined_amounts : (h k m : Holding) → ((i : ℕ) → amount_at i m % 2 ^ 64 ≡ (amount_at i h + amount_at i k) % 2 ^ 64) → (s n : ℕ)
      → amounts_to w l s m n % 2 ^ 64 ≡ (amounts_to w l s h n + amounts_to w l s k n) % 2 ^ 64
  joined_amounts h k m e s zero = refl
  joined_amounts h k m e s (suc n) =
      both_more (amounts_to w l s m n) (amounts_to w l s h n) (amounts_to w l s k n) (amount_at (stripe_word w l s n) m)
      (amount_at (stripe_word w l s n) h) (amount_at (stripe_word w l s n) k) (joined_amounts h k m e s n) (e (stripe_word w l s n))

  module _ (h k : Holding) (slot r n : ℕ) (in_slot : r < l) (is : Raises (stripe_word w l slot r) n h k) where
    stripes_apart : (s s' a b : ℕ) → a < l → b < l → stripe_word w l s a ≡ stripe_word w l s' b → (s ≡ s') × (a ≡ b)
    stripes_apart s s' a b p q e = let t = same_place (w + l) s s' (w + a) (w + b) (omega arith) (omega arith) e in let u = t.1 in (t.0, omega arith)

    elsewhere : (s c : ℕ) → c ≤ l → slot ≢ s → amounts_to w l s k c ≡ amounts_to w l s h c
    elsewhere s zero low apart = refl
    elsewhere s (suc c) low apart =
        let a = elsewhere s c (omega arith) apart in
        let b = is.1 (stripe_word w l s c) (λ e. apart (sym (stripes_apart s slot c r (omega arith) in_slot e).0)) in omega arith

    before : (c : ℕ) → c ≤ r → amounts_to w l slot k c ≡ amounts_to w l slot h c
    before zero low = refl
    before (suc c) low =
        let a = before c (omega arith) in
        let b = is.1 (stripe_word w l slot c) (λ e. let q = (stripes_apart slot slot c r (omega arith) in_slot e).1 in omega arith) in omega arith

    past : (c : ℕ) → r < c → c ≤ l → amounts_to w l slot k c % 2 ^ 64 ≡ (amounts_to w l slot h c + n) % 2 ^ 64
    past zero low high = absurd (omega arith)
    past (suc c) low high = dite (ℕ_discrete r c)
        (λ e.
        let x : ℕ = amounts_to w l slot h c in
        let at = subst (λ (j : ℕ). amount_at (stripe_word w l slot j) k % 2 ^ 64 ≡ (amount_at (stripe_word w l slot j) h + n) % 2 ^ 64) e is.0 in
        ap (λ (y : ℕ). (y + amount_at (stripe_word w l slot c) k) % 2 ^ 64) (before c (omega arith))
        ∙ raised_right x (amount_at (stripe_word w l slot c) k) (amount_at (stripe_word w l slot c) h) n at)
        (λ ne.
        let at = is.1 (stripe_word w l slot c) (λ e. let q = (stripes_apart slot slot c r (omega arith) in_slot e).1 in ne (sym q)) in
        ap (λ (y : ℕ). (amounts_to w l slot k c + y) % 2 ^ 64) at
        ∙ raised_left (amounts_to w l slot k c) (amounts_to w l slot h c) (amount_at (stripe_word w l slot c) h) n (past c (omega arith) (omega arith)))

    pub at_home : amounts_to w l slot k l % 2 ^ 64 ≡ (amounts_to w l slot h l + n) % 2 ^ 64
    at_home = past l in_slot (omega arith)

    pub away : (s : ℕ) → slot ≢ s → amounts_to w l s k l ≡ amounts_to w l s h l
    away s apart = elsewhere s l (omega arith) apart

    pub adds_in : AddsIn w l slot n h k
    adds_in s = dite (ℕ_discrete slot s)
        (λ e.
        let here : only_in slot n s ≡ n = ap (λ (t : Bool). cond t n 0) (eq-eqb slot s e) in
        subst (λ (s' : ℕ). amounts_to w l s' k l % 2 ^ 64 ≡ (amounts_to w l s' h l + n) % 2 ^ 64) e at_home ∙ ap (λ (x : ℕ). (amounts_to w l s h l + x) % 2 ^ 64) (sym here))
        (λ ne.
        let here : only_in slot n s ≡ 0 = ap (λ (t : Bool). cond t n 0) (ne_eqb slot s ne) in
        let same = away s ne in
        let all : amounts_to w l s k l ≡ amounts_to w l s h l + only_in slot n s = omega arith in
        ap (λ (x : ℕ). x % 2 ^ 64) all)
