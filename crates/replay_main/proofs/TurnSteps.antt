-- The turns of a log, entry by entry.
use Rattle.std.proofs.Common.{◌≡◌, ℕ, ◌+◌, ◌<◌, ◌∙◌, Bool, true, false, ltb, List, length, map, get_or, refl, sym, subst, arith, ltb-true, ltb-false}
use Rattle.std.specs.Prelude.{slice_index}
use Rattle.std.proofs.lemmas.List.{get_or-map}

-- what holds of the entries in front of one and of that one holds of one more
pub one_more : {X : Type 0} (f : X → ℕ) (xs : List X) (w : ℕ → ℕ) (n : ℕ) (d : X) → n < length xs → f (get_or xs n d) ≡ w n
    → ((k : ℕ) → k < n → slice_index (map f xs) k ≡ w k) → (k : ℕ) → k < n + 1 → slice_index (map f xs) k ≡ w k
one_more f xs w n d inside here before k below =
    by (ltb k n) refl
  where
    by : (b : Bool) → ltb k n ≡ b → slice_index (map f xs) k ≡ w k
    by true e = before k (ltb-true k n e)
    by false e =
        let l = ltb-false k n e in
        let at : k ≡ n = omega (arith, l, below) in
        subst (λ (m : ℕ). slice_index (map f xs) m ≡ w m) (sym at) (get_or-map f xs n d 0 inside ∙ here)
