-- A hand's tokens after one step and after several.
use Rattle.std.proofs.Common.{◌≡◌, ◌≢◌, ℕ, ◌<◌, ◌≤◌, sym, refl, ap, ◌∙◌, subst, arith}
use mathlib.Core.Logic.{dite}
use native.Mathlib.Decide.{ℕ_discrete}
use Rattle.snzi_core.specs.declared.holding.Holding.{Holding}
use Rattle.snzi_core.specs.Caps.{token_cap}
use Rattle.snzi_core.specs.Holding.{tokens_at, held, gain, lose, put}
use Rattle.snzi_core.specs.Changes.{Gains, Loses, Moves}
use Rattle.snzi_core.proofs.NumberLists.{at_put_else, added_put, at_within}
use Rattle.snzi_core.proofs.Hands.{gains as core_gains, loses as core_loses, gain_at, gain_else, gain_held, lose_at, lose_else, swap_held, pass_held}
use Rattle.snzi_tree.specs.View.{Acts, with_holding}
use Rattle.snzi_tree.specs.declared.board.View.{View}
use Rattle.snzi_core.specs.Holding.{out}

-- where a hand has a token at another node, there is room at the parent
pub room_above : (h : Holding) (j p : ℕ) → p ≢ j → 0 < tokens_at j h → held h ≤ token_cap → tokens_at p h < token_cap
room_above h j p apart have few =
    let a = added_put h.tokens j 0 in
    let b = at_put_else h.tokens j p 0 apart in
    let c = at_within (put h.tokens j 0) p in omega arith

-- what a hand keeps beside its seat, after a step
pub seated : (v u : View) (g : Holding) (count helpers : ℕ) → u ≡ with_holding v g → g.role ≡ v.holding.role → Acts v → count ≡ held g → held g ≤ token_cap → helpers ≡ out v.holding.role
    → Acts u × (count ≡ held u.holding) × (held u.holding ≤ token_cap) × (helpers ≡ out u.holding.role)
seated v u g count helpers is role acts count_is few helpers_is = subst (λ (x : View). Acts x × (count ≡ held x.holding) × (held x.holding ≤ token_cap) × (helpers ≡ out x.holding.role)) (sym is)
    ((λ s. acts (sym role ∙ s)), count_is, few, helpers_is ∙ sym (ap out role))

pub gains : (h k : Holding) (j : ℕ) → k ≡ gain h j → Gains j h k
gains h k j is = subst (Gains j h) (sym is) (core_gains h j)

pub loses : (h k : Holding) (j : ℕ) → 0 < tokens_at j h → k ≡ lose h j → Loses j h k
loses h k j have is = subst (Loses j h) (sym is) (core_loses h j have)

-- the token that was passed to the parent is given up too
pub loses_passed : (h m k : Holding) (j p : ℕ) → p ≢ j → 0 < tokens_at j h → m ≡ gain (lose h j) p → Loses p m k → Loses j h k
loses_passed h m k j p apart have is l = subst (λ (x : Holding). Loses p x k → Loses j h k) (sym is) by_pass l
  where
    by_pass : Loses p (gain (lose h j) p) k → Loses j h k
    by_pass l' = (
      let a = l'.1 j (λ e. apart (sym e)) in let b = gain_else (lose h j) p j (λ e. apart (sym e)) in let c = lose_at h j in omega arith,
      (λ i off. dite (ℕ_discrete i p)
          (λ e. subst (λ x. tokens_at x k ≡ tokens_at x h) (sym e) (let a = l'.0 in let b = gain_at (lose h j) p in let c = lose_else h j p apart in omega arith))
          (λ ne. l'.1 i ne ∙ gain_else (lose h j) p i ne ∙ lose_else h j i off)),
      let a = l'.2 in let b = pass_held h j p have in omega arith,
      l'.3,
      l'.4,
    )

pub passed_has : (h m : Holding) (j p : ℕ) → m ≡ gain (lose h j) p → 0 < tokens_at p m
passed_has h m j p is = subst (λ (x : Holding). 0 < tokens_at p x) (sym is) (let a = gain_at (lose h j) p in omega arith)

-- the parent's token is used up
pub moves_used : (m k : Holding) (j p : ℕ) → p ≢ j → 0 < tokens_at p m → k ≡ lose (gain m j) p → Moves p j m k
moves_used m k j p apart have is = subst (Moves p j m) (sym is) (
  let a = lose_else (gain m j) p j (λ e. apart (sym e)) in let b = gain_at m j in omega arith,
  let a = lose_at (gain m j) p in let b = gain_else m j p apart in omega arith,
  (λ i off ne. lose_else (gain m j) p i ne ∙ gain_else m j i off),
  swap_held m j p apart have,
  refl,
  refl,
)

-- the parent's token was left over and is given up
pub moves_back : (m n k : Holding) (j p : ℕ) → p ≢ j → n ≡ gain m j → Loses p n k → Moves p j m k
moves_back m n k j p apart is l = subst (λ (x : Holding). Loses p x k → Moves p j m k) (sym is) by_loss l
  where
    by_loss : Loses p (gain m j) k → Moves p j m k
    by_loss l' = (
      let a = l'.1 j (λ e. apart (sym e)) in let b = gain_at m j in omega arith,
      let a = l'.0 in let b = gain_else m j p apart in omega arith,
      (λ i off ne. l'.1 i ne ∙ gain_else m j i off),
      let a = l'.2 in let b = gain_held m j in omega arith,
      l'.3,
      l'.4,
    )

pub back_has : (m n : Holding) (j p : ℕ) → p ≢ j → 0 < tokens_at p m → n ≡ gain m j → 0 < tokens_at p n
back_has m n j p apart have is = subst (λ (x : Holding). 0 < tokens_at p x) (sym is) (let a = gain_else m j p apart in omega arith)

pub gains_moved : (h m k : Holding) (j p : ℕ) → p ≢ j → Gains p h m → Moves p j m k → Gains j h k
gains_moved h m k j p apart g t = (
  let a = t.0 in let b = g.1 j (λ e. apart (sym e)) in omega arith,
  (λ i off. dite (ℕ_discrete i p)
      (λ e. subst (λ x. tokens_at x k ≡ tokens_at x h) (sym e) (let a = t.1 in let b = g.0 in omega arith))
      (λ ne. t.2 i off ne ∙ g.1 i ne)),
  t.3 ∙ g.2,
  t.4 ∙ g.3,
  t.5 ∙ g.4,
)
