-- Each kind of step keeps the balance.
use Rattle.std.proofs.Common.{◌≡◌, ◌≢◌, ℕ, ◌+◌, ◌-◌, ◌%◌, ◌^◌, ◌<◌, ◌≤◌, List, length, set, sym, refl, ap, ◌∙◌, subst, ⊎_elim, arith, get_or-set_same, get_or-set_other}
use Rattle.std.specs.Prelude.{slice_index}
use mathlib.Core.Option.{some}
use mathlib.Core.Logic.{dite}
use native.Mathlib.Decide.{ℕ_discrete}
use lib.ListN.{get_elem?}
use Rattle.snzi_core.specs.declared.holding.Holding.{Holding}
use Rattle.snzi_core.specs.Holding.{tokens_at, amount_at}
use Rattle.snzi_core.specs.Shape.{WordKind, inner, leaf, stripe, Family}
use Rattle.snzi_core.specs.Balance.{total, up, Stands, Balanced}
use Rattle.std.proofs.Math.Nat.{add-mod-mod, mod-add-mod}
use Rattle.snzi_core.proofs.NumberLists.{total_set, total_at}
use Rattle.snzi_core.proofs.Shapes.{inner_stripe}

pub lt_ne : (a b : ℕ) → a < b → a ≢ b
lt_ne a b h e = omega arith

lt_trans2 : (a b c : ℕ) → a < b → b < c → a < c
lt_trans2 a b c h k = omega arith

abbrev first_child : WordKind → ℕ
first_child (inner a b) = a
first_child leaf = 0
first_child stripe = 0

abbrev second_child : WordKind → ℕ
second_child (inner a b) = b
second_child leaf = 0
second_child stripe = 0

-- a sum modulo 2^64 after one of its parts was raised by n
after_raise : (t a b n t' : ℕ) → a ≤ t → t' + a ≡ t + b → b % 2 ^ 64 ≡ (a + n) % 2 ^ 64 → (t % 2 ^ 64 + n) % 2 ^ 64 ≡ t' % 2 ^ 64
after_raise t a b n t' le e own = mod-add-mod t (2 ^ 64) n ∙ ap (λ (x : ℕ). x % 2 ^ 64) parts ∙ sym (add-mod-mod (t - a) (a + n) (2 ^ 64))
    ∙ ap (λ (x : ℕ). (t - a + x) % 2 ^ 64) (sym own) ∙ add-mod-mod (t - a) b (2 ^ 64) ∙ ap (λ (x : ℕ). x % 2 ^ 64) whole
  where
    parts : t + n ≡ t - a + (a + n)
    parts = omega arith

    whole : t - a + b ≡ t'
    whole = omega arith

module _ (kind : ℕ → WordKind) (parent : ℕ → ℕ) (tree : Family kind parent) where
  -- a node's step changes its word and one hand; of the hand's tokens, those at the node and its parent
  module _ (words : List ℕ) (hands : List Holding) (id j n : ℕ) (v w : Holding)
      (at : get_elem? hands id ≡ some v) (inside : j < length words) (node : kind j ≢ stripe)
      (own : n + tokens_at j v ≡ slice_index words j + tokens_at j w)
      (above : parent j ≢ j → tokens_at (parent j) w + up n ≡ tokens_at (parent j) v + up (slice_index words j))
      (elsewhere : (i : ℕ) → i ≢ j → i ≢ parent j → tokens_at i w ≡ tokens_at i v)
      (amounts : w.amounts ≡ v.amounts) where
    other : (i : ℕ) → i ≢ j → slice_index (set words j n) i ≡ slice_index words i
    other i apart = get_or-set_other words j i n 0 apart

    here : slice_index (set words j n) j ≡ n
    here = get_or-set_same words j n 0 inside

    child_up : (i a b : ℕ) → kind i ≡ inner a b → i ≢ parent j → (a ≢ j) × (b ≢ j)
    child_up i a b is apart = let c = tree.children i a b is in ((λ e. apart (sym c.0 ∙ ap parent e)), (λ e. apart (sym c.1 ∙ ap parent e)))

    tokens : (i : ℕ) → total (tokens_at i) (set hands id w) + tokens_at i v ≡ total (tokens_at i) hands + tokens_at i w
    tokens i = total_set (tokens_at i) hands id v w at

    amount : (i : ℕ) → total (amount_at i) (set hands id w) ≡ total (amount_at i) hands
    amount i = let t = total_set (amount_at i) hands id v w at in let same : amount_at i w ≡ amount_at i v = ap (λ (l : List ℕ). slice_index l i) amounts in omega arith

    at_node : (k : WordKind) → kind j ≡ k → Stands words hands j k → Stands (set words j n) (set hands id w) j k
    at_node (inner a b) is was =
        let c = tree.children j a b is in
        let t = tokens j in
        let x = other a (λ e. lt_ne j a c.2 (sym e)) in
        let y = other b (λ e. lt_ne j b (lt_trans2 j a b c.2 c.3) (sym e)) in
        let z = here in
        let p : up (slice_index (set words j n) a) ≡ up (slice_index words a) = ap up x in
        let q : up (slice_index (set words j n) b) ≡ up (slice_index words b) = ap up y in
        omega arith
    at_node leaf is was = let t = tokens j in let z = here in omega arith
    at_node stripe is was = absurd (node is)

    at_parent : (k : WordKind) → parent j ≢ j → kind (parent j) ≡ k → Stands words hands (parent j) k → Stands (set words j n) (set hands id w) (parent j) k
    at_parent (inner a b) apart is was =
        let c = tree.children (parent j) a b is in
        let t = tokens (parent j) in
        let x = other (parent j) apart in
        let z : up (slice_index (set words j n) j) ≡ up n = ap up here in
        let m = above apart in
        let d = tree.child j apart in
        ⊎_elim
        (λ (e : kind (parent j) ≡ inner j d.0).
        let a_is : a ≡ j = ap first_child (sym is ∙ e) in
        let y : up (slice_index (set words j n) b) ≡ up (slice_index words b) = ap up (other b (λ f. lt_ne a b c.3 (a_is ∙ sym f))) in
        let u : up (slice_index words a) ≡ up (slice_index words j) = ap (λ i. up (slice_index words i)) a_is in
        let s : up (slice_index (set words j n) a) ≡ up (slice_index (set words j n) j) = ap (λ i. up (slice_index (set words j n) i)) a_is in
        let goal : slice_index (set words j n) (parent j) ≡ total (tokens_at (parent j)) (set hands id w)
        + (up (slice_index (set words j n) a) + up (slice_index (set words j n) b)) = omega arith in goal)
        (λ (e : kind (parent j) ≡ inner d.0 j).
        let b_is : b ≡ j = ap second_child (sym is ∙ e) in
        let y : up (slice_index (set words j n) a) ≡ up (slice_index words a) = ap up (other a (λ f. lt_ne a b c.3 (f ∙ sym b_is))) in
        let u : up (slice_index words b) ≡ up (slice_index words j) = ap (λ i. up (slice_index words i)) b_is in
        let s : up (slice_index (set words j n) b) ≡ up (slice_index (set words j n) j) = ap (λ i. up (slice_index (set words j n) i)) b_is in
        let goal : slice_index (set words j n) (parent j) ≡ total (tokens_at (parent j)) (set hands id w)
        + (up (slice_index (set words j n) a) + up (slice_index (set words j n) b)) = omega arith in goal)
        d.1
    at_parent leaf apart is was =
        ⊎_elim (λ (e : kind (parent j) ≡ inner (j) (tree.child j apart).0). absurd (no_leaf _ _ (sym e ∙ is))) (λ (e : kind (parent j)
        ≡ inner (tree.child j apart).0 j). absurd (no_leaf _ _ (sym e ∙ is))) (tree.child j apart).1
      where
        no_leaf : (a b : ℕ) → inner a b ≡ leaf → ⊥
        no_leaf a b e = cc
    at_parent stripe apart is was =
        ⊎_elim (λ (e : kind (parent j) ≡ inner (j) (tree.child j apart).0). absurd (inner_stripe _ _ (sym e ∙ is))) (λ (e : kind (parent j)
        ≡ inner (tree.child j apart).0 j). absurd (inner_stripe _ _ (sym e ∙ is))) (tree.child j apart).1

    away : (k : WordKind) (i : ℕ) → i ≢ j → i ≢ parent j → kind i ≡ k → Stands words hands i k → Stands (set words j n) (set hands id w) i k
    away (inner a b) i apart off is was =
        let c = child_up i a b is off in
        let t = tokens i in
        let m = elsewhere i apart off in
        let x = other i apart in
        let p : up (slice_index (set words j n) a) ≡ up (slice_index words a) = ap up (other a c.0) in
        let q : up (slice_index (set words j n) b) ≡ up (slice_index words b) = ap up (other b c.1) in
        omega arith
    away leaf i apart off is was = let t = tokens i in let m = elsewhere i apart off in let x = other i apart in omega arith
    away stripe i apart off is was = other i apart ∙ was ∙ ap (λ m. m % 2 ^ 64) (sym (amount i))

    pub node_law : Balanced kind words hands → Balanced kind (set words j n) (set hands id w)
    node_law was i = dite (ℕ_discrete i j)
        (λ e. subst (λ m. Stands (set words j n) (set hands id w) m (kind m)) (sym e) (at_node (kind j) refl (was j)))
        (λ apart. dite (ℕ_discrete i (parent j))
        (λ e. let off : parent j ≢ j = λ f. apart (e ∙ f) in subst (λ m. Stands (set words j n) (set hands id w) m (kind m)) (sym e) (at_parent (kind (parent j)) off refl (was (parent j))))
        (λ off. away (kind i) i apart off refl (was i)))

  -- an add to a stripe
  module _ (words : List ℕ) (hands : List Holding) (id j n : ℕ) (v w : Holding)
      (at : get_elem? hands id ≡ some v) (inside : j < length words) (striped : kind j ≡ stripe)
      (own : amount_at j w % 2 ^ 64 ≡ (amount_at j v + n) % 2 ^ 64)
      (elsewhere : (i : ℕ) → i ≢ j → amount_at i w ≡ amount_at i v)
      (tokens : w.tokens ≡ v.tokens) where
    same_tokens : (i : ℕ) → total (tokens_at i) (set hands id w) ≡ total (tokens_at i) hands
    same_tokens i = let t = total_set (tokens_at i) hands id v w at in let same : tokens_at i w ≡ tokens_at i v = ap (λ (l : List ℕ). slice_index l i) tokens in omega arith

    not_child : (i a b : ℕ) → kind i ≡ inner a b → (a ≢ j) × (b ≢ j)
    not_child i a b is = let c = tree.children i a b is in ((λ e. c.4 (ap kind e ∙ striped)), (λ e. c.5 (ap kind e ∙ striped)))

    at_else : (k : WordKind) (i m : ℕ) → i ≢ j → kind i ≡ k → Stands words hands i k → Stands (set words j m) (set hands id w) i k
    at_else (inner a b) i m apart is was =
        let c = not_child i a b is in
        let t = same_tokens i in
        let x = get_or-set_other words j i m 0 apart in
        let p : up (slice_index (set words j m) a) ≡ up (slice_index words a) = ap up (get_or-set_other words j a m 0 c.0) in
        let q : up (slice_index (set words j m) b) ≡ up (slice_index words b) = ap up (get_or-set_other words j b m 0 c.1) in
        omega arith
    at_else leaf i m apart is was = let t = same_tokens i in let x = get_or-set_other words j i m 0 apart in omega arith
    at_else stripe i m apart is was =
        let t = total_set (amount_at i) hands id v w at in
        let e = elsewhere i apart in
        let same : total (amount_at i) (set hands id w) ≡ total (amount_at i) hands = omega arith in
        get_or-set_other words j i m 0 apart ∙ was ∙ ap (λ (z : ℕ). z % 2 ^ 64) (sym same)

    at_stripe : (m : ℕ) → m ≡ (slice_index words j + n) % 2 ^ 64 → Stands words hands j stripe → Stands (set words j m) (set hands id w) j stripe
    at_stripe m is was =
        let t = total_set (amount_at j) hands id v w at in
        let le = total_at (amount_at j) hands id v at in
        let x = get_or-set_same words j m 0 inside in
        x ∙ is ∙ ap (λ (z : ℕ). (z + n) % 2 ^ 64) was ∙ after_raise (total (amount_at j) hands) (amount_at j v) (amount_at j w) n (total (amount_at j) (set hands id w)) le t own

    pub stripe_law : Balanced kind words hands → Balanced kind (set words j ((slice_index words j + n) % 2 ^ 64)) (set hands id w)
    stripe_law was i = dite (ℕ_discrete i j)
        (λ e. subst (λ m. Stands (set words j ((slice_index words j + n) % 2 ^ 64)) (set hands id w) m (kind m)) (sym e)
        (subst (λ k. Stands (set words j ((slice_index words j + n) % 2 ^ 64)) (set hands id w) j k) (sym striped) (at_stripe _ refl (subst (λ k. Stands words hands j k) striped (was j)))))
        (λ apart. at_else (kind i) i _ apart refl (was i))

  -- the hands stay, and the words with them, where each sum does
  module _ (words : List ℕ) (hands after : List Holding)
      (tokens : (i : ℕ) → total (tokens_at i) after ≡ total (tokens_at i) hands)
      (amounts : (i : ℕ) → total (amount_at i) after % 2 ^ 64 ≡ total (amount_at i) hands % 2 ^ 64) where
    resums : (k : WordKind) (i : ℕ) → Stands words hands i k → Stands words after i k
    resums (inner a b) i was = let t = tokens i in omega arith
    resums leaf i was = let t = tokens i in omega arith
    resums stripe i was = was ∙ sym (amounts i)

    pub resum_law : Balanced kind words hands → Balanced kind words after
    resum_law was i = resums (kind i) i (was i)
