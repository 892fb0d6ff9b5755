-- One main hand and the helpers that it counts, through each kind of step.
use Rattle.std.proofs.Common.{◌≡◌, ◌≢◌, ℕ, zero, suc, ◌+◌, ◌*◌, ◌<◌, ◌≤◌, List, [], ◌∷◌, ◌++◌, set, sym, refl, ap, ◌∙◌, subst, arith}
use Rattle.std.specs.Prelude.{slice_index}
use mathlib.Core.Option.{some, some-injective, some-ne-none}
use lib.ListN.{get_elem?}
use Rattle.snzi_core.specs.declared.holding.Holding.{Holding}
use Rattle.snzi_core.specs.declared.holding.Role.{Role}
use Rattle.snzi_core.specs.declared.holding.Role.TheVariants.{Main, Helper, Spent}
use Rattle.snzi_core.specs.Holding.{tokens_at, amount_at, main_weight, helper_weight, out}
use Rattle.snzi_core.specs.Shape.{WordKind, inner, leaf, stripe}
use Rattle.snzi_core.specs.Balance.{total, up, Stands, mains, helpers, outs, Each, Within, Mustered, Ruled}
use Rattle.snzi_core.proofs.NumberLists.{total_set, total_at}

module _ (P : Holding → Type 0) where
  pub each_set : (l : List Holding) (id : ℕ) (w : Holding) → Each P l → P w → Each P (set l id w)
  each_set [] id w all is = all
  each_set (x ∷ xs) zero w all is = (is, all.1)
  each_set (x ∷ xs) (suc id) w all is = (all.0, each_set xs id w all.1 is)

  pub each_at : (l : List Holding) (id : ℕ) (v : Holding) → Each P l → get_elem? l id ≡ some v → P v
  each_at [] id v all e = absurd (some-ne-none v (sym e))
  each_at (x ∷ xs) zero v all e = subst P (some-injective x v e) all.0
  each_at (x ∷ xs) (suc id) v all e = each_at xs id v all.1 e

  pub each_snoc : (l : List Holding) (w : Holding) → Each P l → P w → Each P (l ++ w ∷ [])
  each_snoc [] w all is = (is, tt)
  each_snoc (x ∷ xs) w all is = (all.0, each_snoc xs w all.1 is)

-- a step of a hand that keeps its role
pub muster_kept : (hands : List Holding) (id : ℕ) (v w : Holding) → Mustered hands → get_elem? hands id ≡ some v → w.role ≡ v.role → Within w → Mustered (set hands id w)
muster_kept hands id v w m at same is =
    let a = total_set mains hands id v w at in
    let b = total_set outs hands id v w at in
    let c = total_set helpers hands id v w at in
    let a' : mains w ≡ mains v = ap main_weight same in
    let b' : outs w ≡ outs v = ap out same in
    let c' : helpers w ≡ helpers v = ap helper_weight same in
    let m0 = m.0 in let m1 = m.1 in let m2 = m.2 in
    (omega arith, omega arith, omega arith, each_set Within hands id w m.3 is)

live : Role → ℕ
live r = main_weight r + helper_weight r

spent_none : (h : Holding) (i : ℕ) → h.tokens ≡ [] → tokens_at i h ≡ 0
spent_none h i e = ap (λ (l : List ℕ). slice_index l i) e

capped_by : (h : Holding) (r : Role) (i : ℕ) → h.role ≡ r → Within h → tokens_at i h ≤ 1099511627776 * (main_weight r + helper_weight r)
capped_by h (Main n) i is w = let b = w.0 i in omega arith
capped_by h Helper i is w = let b = w.0 i in omega arith
capped_by h Spent i is w = let a = spent_none h i (w.1 is).0 in omega arith

pub total_capped : (hands : List Holding) (i : ℕ) → Each Within hands → total (tokens_at i) hands ≤ 1099511627776 * (total mains hands + total helpers hands)
total_capped [] i all = omega arith
total_capped (x ∷ xs) i all = let a = capped_by x x.role i refl all.0 in let b = total_capped xs i all.1 in omega arith

-- a node's word is far from the greatest number
pub word_small : (kind : ℕ → WordKind) (words : List ℕ) (hands : List Holding) (i : ℕ) → kind i ≢ stripe → Ruled kind words hands → slice_index words i < 18446744073709551615
word_small kind words hands i node r = by_line (kind i) refl (r.0 i)
  where
    sum : total (tokens_at i) hands ≤ 1099511627776 * 65536
    sum = let a = total_capped hands i r.1.3 in let b = r.1.0 in let c = r.1.2 in omega arith

    up_le : (n : ℕ) → up n ≤ 1
    up_le zero = omega arith
    up_le (suc n) = omega arith

    by_line : (k : WordKind) → kind i ≡ k → Stands words hands i k → slice_index words i < 18446744073709551615
    by_line (inner a b) is s = let t = sum in let x = up_le (slice_index words a) in let y = up_le (slice_index words b) in omega arith
    by_line leaf is s = let t = sum in omega arith
    by_line stripe is s = absurd (node is)

-- where one hand has all of a weight, the others, which have none of it, add nothing to f
module _ (f g : Holding → ℕ) (none : (h : Holding) → Within h → g h ≡ 0 → f h ≡ 0) where
  all_none : (l : List Holding) → Each Within l → total g l ≡ 0 → total f l ≡ 0
  all_none [] all z = refl
  all_none (x ∷ xs) all z = let a = none x all.0 (omega arith) in let b = all_none xs all.1 (omega arith) in omega arith

  pub sole : (l : List Holding) (id : ℕ) (v : Holding) → Each Within l → get_elem? l id ≡ some v → total g l ≡ g v → total f l ≡ f v
  sole [] id v all e z = absurd (some-ne-none v (sym e))
  sole (x ∷ xs) zero v all e z =
      let is : g x ≡ g v = ap g (some-injective x v e) in
      let is' : f x ≡ f v = ap f (some-injective x v e) in
      let a = all_none xs all.1 (omega arith) in omega arith
  sole (x ∷ xs) (suc id) v all e z =
      let most = total_at g xs id v e in
      let a = none x all.0 (omega arith) in
      let b = sole xs id v all.1 e (omega arith) in omega arith

pub no_main_no_out : (r : Role) → main_weight r ≡ 0 → out r ≡ 0
no_main_no_out (Main n) e = absurd (cc)
no_main_no_out Helper e = refl
no_main_no_out Spent e = refl

not_live : (r : Role) → main_weight r + helper_weight r ≡ 0 → r ≡ Spent
not_live (Main n) e = absurd (omega arith)
not_live Helper e = absurd (omega arith)
not_live Spent e = refl

-- main, with no helper out, has all that there is
module _ (hands : List Holding) (id : ℕ) (v : Holding) (m : Mustered hands) (at : get_elem? hands id ≡ some v) (main : v.role ≡ Main 0) where
  no_helpers : total helpers hands ≡ 0
  no_helpers =
      let one : mains v ≡ 1 = ap main_weight main in
      let z : outs v ≡ 0 = ap out main in
      let a = sole outs mains (λ h _ e. no_main_no_out h.role e) hands id v m.3 at (m.0 ∙ sym one) in
      let b = m.1 in omega arith

  alone_by : (f : Holding → ℕ) → ((h : Holding) → Within h → h.role ≡ Spent → f h ≡ 0) → total f hands ≡ f v
  alone_by f none =
      let one : mains v ≡ 1 = ap main_weight main in
      let zero' : helpers v ≡ 0 = ap helper_weight main in
      let n = no_helpers in
      let m0 = m.0 in
      sole f (λ h. mains h + helpers h) (λ h w e. none h w (not_live h.role e)) hands id v m.3 at (both hands ∙ omega arith)
    where
      both : (l : List Holding) → total (λ h. mains h + helpers h) l ≡ total mains l + total helpers l
      both [] = refl
      both (x ∷ xs) = let r = both xs in omega arith

  pub alone_tokens : (i : ℕ) → total (tokens_at i) hands ≡ tokens_at i v
  alone_tokens i = alone_by (tokens_at i) (λ h w s. ap (λ (l : List ℕ). slice_index l i) (w.1 s).0)

  pub alone_amounts : (i : ℕ) → total (amount_at i) hands ≡ amount_at i v
  alone_amounts i = alone_by (amount_at i) (λ h w s. ap (λ (l : List ℕ). slice_index l i) (w.1 s).1)
