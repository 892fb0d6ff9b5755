-- Main and a helper after a split and after a join.
use Rattle.std.proofs.Common.{◌≡◌, ◌≢◌, ℕ, ◌+◌, ◌-◌, ◌*◌, ◌%◌, ◌^◌, ◌<◌, ◌≤◌, List, [], sym, ap, ◌∙◌, subst, arith, mul-le-mul_right, cond, Bool, eq-eqb, ne_eqb}
use Rattle.std.specs.Prelude.{slice_index, nat_eq}
use mathlib.Core.Logic.{dite}
use native.Mathlib.Decide.{ℕ_discrete}
use Rattle.snzi_core.specs.declared.holding.Holding.{Holding}
use Rattle.snzi_core.specs.declared.holding.Role.{Role}
use Rattle.snzi_core.specs.declared.holding.Role.TheVariants.{Helper, Spent}
use Rattle.snzi_core.specs.Caps.{token_cap}
use Rattle.snzi_core.specs.Holding.{tokens_at, amount_at, held, added, put, out, main_weight, helper_weight, one_out, one_back, without, merged}
use Rattle.snzi_core.specs.Changes.{Parts}
use Rattle.snzi_core.proofs.Hands.{parts}
use Rattle.snzi_core.proofs.NumberLists.{at_nothing, at_put_same, at_put_else, added_put, at_without, added_without, at_merged, added_merged}
use Rattle.snzi_core.proofs.SplitBalance.{not_spent, one_out_main, one_back_main, one_out_out, one_back_out}
use Rattle.snzi_core.proofs.TableRewrites.{at_wrapped}
use Rattle.snzi_tree.specs.declared.board.View.{View}
use Rattle.snzi_tree.specs.View.{Acts, kept, given, joined}

pub pos_mul : (a b : ℕ) → 0 < a → 0 < b → 0 < a * b
pos_mul a b p q = let m : 1 * b ≤ a * b = mul-le-mul_right b p in omega arith

abbrev one_if : Bool → ℕ
one_if t = cond t 1 0

-- one more token in the share
pub plan_step : (p : List ℕ) (j i rest : ℕ) → slice_index (put p j (slice_index p j + 1)) i + rest ≡ slice_index p i + (one_if (nat_eq j i) + rest)
plan_step p j i rest = dite (ℕ_discrete j i)
    (λ e. let a = at_put_same p j (slice_index p j + 1) in
    let b : one_if (nat_eq j i) ≡ 1 = ap (λ (t : Bool). one_if t) (eq-eqb j i e) in
    let c : slice_index (put p j (slice_index p j + 1)) i ≡ slice_index (put p j (slice_index p j + 1)) j = ap (λ (x : ℕ). slice_index (put p j (slice_index p j + 1)) x) (sym e) in
    let d : slice_index p i ≡ slice_index p j = ap (λ (x : ℕ). slice_index p x) (sym e) in omega arith)
    (λ ne. let a = at_put_else p j i (slice_index p j + 1) (λ e. ne (sym e)) in
    let b : one_if (nat_eq j i) ≡ 0 = ap (λ (t : Bool). one_if t) (ne_eqb j i ne) in omega arith)

pub plan_more : (p : List ℕ) (j : ℕ) → added (put p j (slice_index p j + 1)) ≡ added p + 1
plan_more p j = let a = added_put p j (slice_index p j + 1) in omega arith

main_acts : (r : Role) → main_weight r ≡ 1 → r ≡ Spent → ⊥
main_acts r main e = not_spent r (omega arith) e

-- main v gives its plan away, and is u then
module _ (v u : View) (main : main_weight v.holding.role ≡ 1) (is : u ≡ kept v) (fits : (i : ℕ) → slice_index v.plan i ≤ tokens_at i v.holding) where
  pub split_active : Acts u
  split_active s = main_acts (one_out v.holding.role) (one_out_main v.holding.role ∙ main) (sym (ap (λ (x : View). x.holding.role) is) ∙ s)

  pub split_held : (h len : ℕ) → h ≡ held v.holding → added v.plan ≡ len → h - len ≡ held u.holding
  split_held h len a b = let c = added_without v.holding.tokens v.plan fits in let d : held u.holding ≡ added (without v.holding.tokens v.plan) = ap (λ (x : View). held x.holding) is in omega arith

  pub split_room : (h len : ℕ) → h ≡ held v.holding → added v.plan ≡ len → len ≤ h
  split_room h len a b = let c = added_without v.holding.tokens v.plan fits in omega arith

  pub split_few : held v.holding ≤ token_cap → held u.holding ≤ token_cap
  split_few few = let c = added_without v.holding.tokens v.plan fits in let d : held u.holding ≡ added (without v.holding.tokens v.plan) = ap (λ (x : View). held x.holding) is in omega arith

  pub split_helpers : (k : ℕ) → k ≡ out v.holding.role → k + 1 ≡ out u.holding.role
  split_helpers k e = let a = one_out_out v.holding.role main in let b : out u.holding.role ≡ out (one_out v.holding.role) = ap (λ (x : View). out x.holding.role) is in omega arith

  pub split_tokens : (i : ℕ) → tokens_at i u.holding + slice_index v.plan i ≡ tokens_at i v.holding
  split_tokens i = let a : tokens_at i u.holding ≡ slice_index (without v.holding.tokens v.plan) i =
      ap (λ (x : View). tokens_at i x.holding) is in let b = at_without v.holding.tokens v.plan i in let c = fits i in omega arith

pub helper_acts : (r : Role) → r ≡ Helper → r ≢ Spent
helper_acts r is s = not_spent r (let a : helper_weight r ≡ 1 = ap helper_weight is in omega arith) s

pub shared : (m k h n : ℕ) → m + k ≡ h → k ≡ n → m + n ≡ h
shared m k h n all is = omega arith

-- what contracts say of both hands
pub parts_seen : (v u k : View) (h : Holding) → main_weight v.holding.role ≡ 1 → u ≡ kept v → k ≡ given v → v.holding ≡ h
    → ((i : ℕ) → slice_index v.plan i ≤ tokens_at i v.holding) → Parts h u.holding k.holding
parts_seen v u k h main is helper same fits =
    subst (λ (x : Holding × View × View). Parts x.0 x.1.holding x.2.holding) (λ i. (
      same i,
      sym is i,
      sym helper i,
    )) (parts v.holding v.plan [] main fits at_nothing)

-- main v takes what w has, and is u then
module _ (v w u : View) (main : main_weight v.holding.role ≡ 1) (is : u ≡ joined v w) where
  pub join_active : Acts u
  join_active s = main_acts (one_back v.holding.role) (one_back_main v.holding.role ∙ main) (sym (ap (λ (x : View). x.holding.role) is) ∙ s)

  pub join_held : (h k : ℕ) → h ≡ held v.holding → k ≡ held w.holding → h + k ≡ held u.holding
  join_held h k a b = let c = added_merged v.holding.tokens w.holding.tokens in
      let d : held u.holding ≡ added (merged v.holding.tokens w.holding.tokens) = ap (λ (x : View). held x.holding) is in omega arith

  pub join_helpers : (k : ℕ) → k ≡ out v.holding.role → k - 1 ≡ out u.holding.role
  join_helpers k e = let a = one_back_out v.holding.role in let b : out u.holding.role ≡ out (one_back v.holding.role) = ap (λ (x : View). out x.holding.role) is in omega arith

  pub join_tokens : (i : ℕ) → tokens_at i u.holding ≡ tokens_at i v.holding + tokens_at i w.holding
  join_tokens i = ap (λ (x : View). tokens_at i x.holding) is ∙ at_merged v.holding.tokens w.holding.tokens i

  pub join_amounts : (i : ℕ) → amount_at i u.holding ≡ (amount_at i v.holding + amount_at i w.holding) % 2 ^ 64
  join_amounts i = ap (λ (x : View). amount_at i x.holding) is ∙ at_wrapped (merged v.holding.amounts w.holding.amounts) i
      ∙ ap (λ (n : ℕ). n % 2 ^ 64) (at_merged v.holding.amounts w.holding.amounts i)
