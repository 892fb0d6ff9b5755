-- A split and a join keep the rule.
use Rattle.std.proofs.Common.{◌≡◌, ℕ, ◌+◌, ◌-◌, ◌%◌, ◌^◌, ◌<◌, ◌≤◌, List, [], ◌∷◌, ◌++◌, set, sym, refl, ap, ◌∙◌, arith}
use Rattle.std.specs.Prelude.{slice_index}
use mathlib.Core.Option.{some}
use lib.ListN.{get_elem?}
use Rattle.snzi_core.specs.declared.holding.Holding.{Holding}
use Rattle.snzi_core.specs.declared.holding.Role.{Role}
use Rattle.snzi_core.specs.declared.holding.Role.TheVariants.{Main, Helper, Spent}
use Rattle.snzi_core.specs.Holding.{tokens_at, amount_at, empty, main_weight, helper_weight, out, one_out, one_back}
use Rattle.snzi_core.specs.Changes.{Parts, Unites}
use Rattle.snzi_core.specs.Shape.{WordKind, Family}
use Rattle.snzi_core.specs.Balance.{total, Balanced, mains, helpers, outs, Within, Mustered, Ruled}
use Rattle.snzi_core.proofs.NumberLists.{total_set, total_snoc}
use Rattle.snzi_core.proofs.OneWord.{resum_law}
use Rattle.snzi_core.proofs.Muster.{each_set, each_at, each_snoc, sole, no_main_no_out}

-- roles by their weights
pub not_spent : (r : Role) → 0 < main_weight r + helper_weight r → r ≡ Spent → ⊥
not_spent r h e = let a : main_weight r ≡ 0 = ap main_weight e in let b : helper_weight r ≡ 0 = ap helper_weight e in absurd (omega arith)

pub one_out_main : (r : Role) → main_weight (one_out r) ≡ main_weight r
one_out_main (Main n) = refl
one_out_main Helper = refl
one_out_main Spent = refl

one_out_helper : (r : Role) → helper_weight (one_out r) ≡ helper_weight r
one_out_helper (Main n) = refl
one_out_helper Helper = refl
one_out_helper Spent = refl

pub one_out_out : (r : Role) → main_weight r ≡ 1 → out (one_out r) ≡ out r + 1
one_out_out (Main n) e = refl
one_out_out Helper e = absurd (omega arith)
one_out_out Spent e = absurd (omega arith)

pub one_back_main : (r : Role) → main_weight (one_back r) ≡ main_weight r
one_back_main (Main n) = refl
one_back_main Helper = refl
one_back_main Spent = refl

one_back_helper : (r : Role) → helper_weight (one_back r) ≡ helper_weight r
one_back_helper (Main n) = refl
one_back_helper Helper = refl
one_back_helper Spent = refl

pub one_back_out : (r : Role) → out (one_back r) ≡ out r - 1
one_back_out (Main n) = refl
one_back_out Helper = refl
one_back_out Spent = refl

pub main_no_helper : (r : Role) → main_weight r ≡ 1 → helper_weight r ≡ 0
main_no_helper (Main n) e = refl
main_no_helper Helper e = absurd (omega arith)
main_no_helper Spent e = absurd (omega arith)

-- what a join leaves of the sum of the amounts, modulo 2^64
after_union : (t' s t a b c : ℕ) → t' + b ≡ s + 0 → s + a ≡ t + c → c % 18446744073709551616 ≡ (a + b) % 18446744073709551616 → t' % 18446744073709551616 ≡ t % 18446744073709551616
after_union t' s t a b c e f g = omega arith

-- of several hands, main alone has helpers out
pub outs_of_main : (hands : List Holding) (id : ℕ) (v : Holding) → Mustered hands → get_elem? hands id ≡ some v → main_weight v.role ≡ 1 → total outs hands ≡ out v.role
outs_of_main hands id v m at main = sole outs mains (λ h _ e. no_main_no_out h.role e) hands id v m.3 at (m.0 ∙ sym main)

module _ (kind : ℕ → WordKind) (parent : ℕ → ℕ) (tree : Family kind parent) (words : List ℕ) (hands : List Holding) (id : ℕ) (v : Holding) (at : get_elem? hands id ≡ some v) where
  module _ (left right : Holding) (parts : Parts v left right) where
    tokens : (i : ℕ) → total (tokens_at i) (set hands id left ++ right ∷ []) ≡ total (tokens_at i) hands
    tokens i =
        let a = total_snoc (tokens_at i) (set hands id left) right in
        let b = total_set (tokens_at i) hands id v left at in
        let c = parts.0 i in omega arith

    amounts : (i : ℕ) → total (amount_at i) (set hands id left ++ right ∷ []) ≡ total (amount_at i) hands
    amounts i =
        let a = total_snoc (amount_at i) (set hands id left) right in
        let b = total_set (amount_at i) hands id v left at in
        let c = parts.2 i in
        let d : amount_at i left ≡ amount_at i v = ap (λ (l : List ℕ). slice_index l i) parts.1 in omega arith

    pub split_balance : Balanced kind words hands → Balanced kind words (set hands id left ++ right ∷ [])
    split_balance was = resum_law kind parent tree words hands (set hands id left ++ right ∷ []) tokens (λ i. ap (λ (x : ℕ). x % 2 ^ 64) (amounts i)) was

    left_main : main_weight left.role ≡ 1
    left_main = ap main_weight parts.4 ∙ one_out_main v.role ∙ parts.3

    ones : Mustered hands → total mains (set hands id left ++ right ∷ []) ≡ 1
    ones m =
        let a = total_snoc mains (set hands id left) right in
        let b = total_set mains hands id v left at in
        let c = left_main in
        let d : main_weight right.role ≡ 0 = ap main_weight parts.5 in
        let e = parts.3 in
        let f = m.0 in omega arith

    outs_now : total outs (set hands id left ++ right ∷ []) ≡ total outs hands + 1
    outs_now =
        let a = total_snoc outs (set hands id left) right in
        let b = total_set outs hands id v left at in
        let c : out left.role ≡ out v.role + 1 = ap out parts.4 ∙ one_out_out v.role parts.3 in
        let d : out right.role ≡ 0 = ap out parts.5 in omega arith

    helpers_now : total helpers (set hands id left ++ right ∷ []) ≡ total helpers hands + 1
    helpers_now =
        let a = total_snoc helpers (set hands id left) right in
        let b = total_set helpers hands id v left at in
        let c : helper_weight left.role ≡ helper_weight v.role = ap helper_weight parts.4 ∙ one_out_helper v.role in
        let d : helper_weight right.role ≡ 1 = ap helper_weight parts.5 in omega arith

    few : Mustered hands → out v.role < 65535 → total helpers (set hands id left ++ right ∷ []) ≤ 65535
    few m room = let a = helpers_now in let b = outs_of_main hands id v m at parts.3 in let c = m.1 in omega arith

    left_within : Within v → Within left
    left_within was = ((λ i. let a = parts.0 i in let b = was.0 i in omega arith), λ s. absurd (not_spent left.role (let a = left_main in omega arith) s))

    right_within : Within v → Within right
    right_within was = (
      (λ i. let a = parts.0 i in let b = was.0 i in omega arith),
      λ s. absurd (not_spent right.role (let d : helper_weight right.role ≡ 1 = ap helper_weight parts.5 in omega arith) s),
    )

    pub split_muster : Mustered hands → out v.role < 65535 → Mustered (set hands id left ++ right ∷ [])
    split_muster m room =
        let was = each_at Within hands id v m.3 at in (
          ones m,
          outs_now ∙ ap (λ x. x + 1) m.1 ∙ sym helpers_now,
          few m room,
          each_snoc Within (set hands id left) right (each_set Within hands id left m.3 (left_within was)) (right_within was),
        )

    pub split_law : out v.role < 65535 → Ruled kind words hands → Ruled kind words (set hands id left ++ right ∷ [])
    split_law room r = (split_balance r.0, split_muster r.1 room)

  module _ (other : ℕ) (w both : Holding) (there : get_elem? (set hands id both) other ≡ some w) (unites : Unites v w both) where
    tokens' : (i : ℕ) → total (tokens_at i) (set (set hands id both) other (empty Spent)) ≡ total (tokens_at i) hands
    tokens' i =
        let a = total_set (tokens_at i) (set hands id both) other w (empty Spent) there in
        let b = total_set (tokens_at i) hands id v both at in
        let c = unites.0 i in omega arith

    amounts' : (i : ℕ) → total (amount_at i) (set (set hands id both) other (empty Spent)) % 2 ^ 64 ≡ total (amount_at i) hands % 2 ^ 64
    amounts' i = after_union (total (amount_at i) (set (set hands id both) other (empty Spent))) (total (amount_at i) (set hands id both))
        (total (amount_at i) hands) (amount_at i v) (amount_at i w) (amount_at i both)
        (total_set (amount_at i) (set hands id both) other w (empty Spent) there) (total_set (amount_at i) hands id v both at) (unites.1 i)

    pub join_balance : Balanced kind words hands → Balanced kind words (set (set hands id both) other (empty Spent))
    join_balance was = resum_law kind parent tree words hands (set (set hands id both) other (empty Spent)) tokens' amounts' was

    ones' : Mustered hands → total mains (set (set hands id both) other (empty Spent)) ≡ 1
    ones' m =
        let a = total_set mains (set hands id both) other w (empty Spent) there in
        let b = total_set mains hands id v both at in
        let c : main_weight both.role ≡ main_weight v.role = ap main_weight unites.3 ∙ one_back_main v.role in
        let d : main_weight w.role ≡ 0 = ap main_weight unites.4 in
        let e = m.0 in omega arith

    helpers_now' : total helpers (set (set hands id both) other (empty Spent)) + 1 ≡ total helpers hands
    helpers_now' =
        let a = total_set helpers (set hands id both) other w (empty Spent) there in
        let b = total_set helpers hands id v both at in
        let c : helper_weight both.role ≡ helper_weight v.role = ap helper_weight unites.3 ∙ one_back_helper v.role in
        let d : helper_weight w.role ≡ 1 = ap helper_weight unites.4 in omega arith

    outs_now' : Mustered hands → total outs (set (set hands id both) other (empty Spent)) + 1 ≡ total outs hands
    outs_now' m =
        let a = total_set outs (set hands id both) other w (empty Spent) there in
        let b = total_set outs hands id v both at in
        let c : out both.role ≡ out v.role - 1 = ap out unites.3 ∙ one_back_out v.role in
        let d : out w.role ≡ 0 = ap out unites.4 in
        let e = outs_of_main hands id v m at unites.2 in
        let f = m.1 in
        let g = helpers_now' in omega arith

    both_within : ((i : ℕ) → tokens_at i both ≤ 2 ^ 40) → Within both
    both_within cap = (cap, λ s. absurd (not_spent both.role (let a : main_weight both.role ≡ 1 = ap main_weight unites.3 ∙ one_back_main v.role ∙ unites.2 in omega arith) s))

    pub join_muster : Mustered hands → ((i : ℕ) → tokens_at i both ≤ 2 ^ 40) → Mustered (set (set hands id both) other (empty Spent))
    join_muster m cap = (
      ones' m,
      (let a = outs_now' m in let b = helpers_now' in let c = m.1 in omega arith),
      (let a = helpers_now' in let c = m.2 in omega arith),
      each_set Within (set hands id both) other (empty Spent) (each_set Within hands id both m.3 (both_within cap)) ((λ i. omega arith), λ _. (refl, refl)),
    )

    pub join_law : ((i : ℕ) → tokens_at i both ≤ 2 ^ 40) → Ruled kind words hands → Ruled kind words (set (set hands id both) other (empty Spent))
    join_law cap r = (join_balance r.0, join_muster r.1 cap)
