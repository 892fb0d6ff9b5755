-- A core after a step of one hand at one word.
use Rattle.std.proofs.Common.{◌≡◌, ◌≢◌, ℕ, zero, suc, ◌+◌, ◌-◌, ◌%◌, ◌^◌, ◌<◌, true, List, [], ◌∷◌, length, set, get_or, refl, sym, ap, ◌∙◌, subst, arith, true≢false, length-set}
use Rattle.std.specs.Prelude.{slice_index}
use mathlib.Core.Option.{some}
use lib.ListN.{get_elem?}
use Rattle.snzi_core.specs.declared.holding.Holding.{Holding}
use Rattle.snzi_core.specs.declared.holding.Role.{Role}
use Rattle.snzi_core.specs.declared.holding.Role.TheVariants.{Spent}
use Rattle.snzi_core.specs.Holding.{empty, main_weight, tokens_at, amount_at, put, gain, lose, raise}
use Rattle.snzi_core.specs.Changes.{Moves}
use Rattle.snzi_core.specs.Shape.{stripe, IsShape, Family}
use Rattle.snzi_core.specs.Balance.{Ruled, Each}
use Rattle.snzi_core.specs.CoreState.{CoreState, hand_of, kind_of, above, span}
use Rattle.snzi_core.specs.Lawful.{lives, is_live}
use Rattle.snzi_core.specs.Effect.{stepped, arrived, descended, departed, ascended, summed}
use Rattle.snzi_core.specs.Kept.{HasTables, IsCore}
use Rattle.snzi_core.proofs.NumberLists.{put_length, read_inside}
use Rattle.snzi_core.proofs.Shapes.{is_family}
use Rattle.snzi_core.proofs.OneWord.{stripe_law}
use Rattle.snzi_core.proofs.Muster.{each_set, each_at}
use Rattle.snzi_core.proofs.BalanceSteps.{add_balance, first_balance, leave_balance, last_balance, gain_muster, loss_muster, move_muster, raise_muster}
use Rattle.snzi_core.proofs.Hands.{gains, loses, moves_down, moves_up, raises}

-- a live hand is in the list, and its number below the number of hands
pub live_at : (hands : List Holding) (id : ℕ) → lives (get_or hands id (empty Spent)).role ≡ true → get_elem? hands id ≡ some (get_or hands id (empty Spent))
live_at [] id e = absurd (true≢false (sym e))
live_at (h ∷ hs) zero e = refl
live_at (h ∷ hs) (suc id) e = live_at hs id e

pub live_below : (hands : List Holding) (id : ℕ) → lives (get_or hands id (empty Spent)).role ≡ true → id < length hands
live_below [] id e = absurd (true≢false (sym e))
live_below (h ∷ hs) zero e = omega arith
live_below (h ∷ hs) (suc id) e = let r = live_below hs id e in omega arith

pub live_role : (r : Role) → lives r ≡ true → r ≢ Spent
live_role r e s = true≢false (sym e ∙ ap lives s)

-- a write that keeps the role of a hand keeps all roles
role_at : (hands : List Holding) (id j : ℕ) (h d : Holding) → h.role ≡ (get_or hands id d).role → (get_or (set hands id h) j d).role ≡ (get_or hands j d).role
role_at [] id j h d e = refl
role_at (x ∷ xs) zero zero h d e = e
role_at (x ∷ xs) zero (suc j) h d e = refl
role_at (x ∷ xs) (suc id) zero h d e = refl
role_at (x ∷ xs) (suc id) (suc j) h d e = role_at xs id j h d e

pub shape_of : (k : CoreState) → IsCore k → IsShape k.nodes (span k)
shape_of k c = let o = c.odd in (o, omega arith)

pub stepped_core : (k : CoreState) (i x id : ℕ) (h : Holding) → IsCore k → h.role ≡ (hand_of k id).role → HasTables (length k.words) h
    → Ruled (kind_of k) (set k.words i x) (set k.hands id h) → IsCore (stepped k i x id h)
stepped_core k i x id h c role tables rule = record {
  odd = c.odd;
  words = length-set k.words i x ∙ c.words;
  main = ap main_weight (role_at k.hands id 0 h (empty Spent) role) ∙ c.main;
  made = subst (λ (n : ℕ). n < 2 ^ 32) (sym (length-set k.hands id h)) c.made;
  tables = subst (λ (n : ℕ). Each (HasTables n) (set k.hands id h)) (sym (length-set k.words i x)) (each_set (HasTables (length k.words)) k.hands id h c.tables tables);
  rule = rule;
}

-- a step of one hand, which is live
module _ (k : CoreState) (c : IsCore k) (id i : ℕ) (live : is_live k id ≡ true) (inside : i < length k.words) where
  v : Holding
  v = hand_of k id

  at : get_elem? k.hands id ≡ some (hand_of k id)
  at = live_at k.hands id live

  tree : Family (kind_of k) (above k)
  tree = is_family k.nodes (span k) (shape_of k c)

  pub tables : HasTables (length k.words) (hand_of k id)
  tables = each_at (HasTables (length k.words)) k.hands id (hand_of k id) c.tables at

  -- tables whose tokens were written within their length
  written : (h : Holding) → h.role ≡ (hand_of k id).role
      → (length (hand_of k id).tokens ≡ length k.words → length h.tokens ≡ length k.words)
      → (length (hand_of k id).amounts ≡ length k.words → length h.amounts ≡ length k.words) → HasTables (length k.words) h
  written h role ts ns alive = let t = tables live in (ts t.0, ns t.1)

  put_kept : (l : List ℕ) (j x : ℕ) → j < length k.words → length l ≡ length k.words → length (put l j x) ≡ length k.words
  put_kept l j x h e = put_length l j x (omega arith) ∙ e

  pub arrived_core : kind_of k i ≢ stripe → (above k i ≢ i → 0 < slice_index k.words i) → tokens_at i (hand_of k id) < 2 ^ 40 → IsCore (arrived k id i)
  arrived_core node filled room = stepped_core k i (slice_index k.words i + 1) id (gain (hand_of k id) i) c refl
      (written (gain (hand_of k id) i) refl (put_kept (hand_of k id).tokens i (tokens_at i (hand_of k id) + 1) inside) (λ e. e)) (
        add_balance (kind_of k) (above k) tree k.words k.hands id i (hand_of k id) (gain (hand_of k id) i) at inside node filled (gains (hand_of k id) i) c.rule.0,
        gain_muster k.hands id (hand_of k id) (gain (hand_of k id) i) c.rule.1 at (live_role (hand_of k id).role live) i room (gains (hand_of k id) i),
      )

  pub departed_core : kind_of k i ≢ stripe → (above k i ≢ i → slice_index k.words i ≢ 1) → 0 < tokens_at i (hand_of k id) → IsCore (departed k id i)
  departed_core node more have = stepped_core k i (slice_index k.words i - 1) id (lose (hand_of k id) i) c refl
      (written (lose (hand_of k id) i) refl (put_kept (hand_of k id).tokens i (tokens_at i (hand_of k id) - 1) inside) (λ e. e)) (
        leave_balance (kind_of k) (above k) tree k.words k.hands id i (hand_of k id) (lose (hand_of k id) i) at inside node more (loses (hand_of k id) i have) c.rule.0,
        loss_muster k.hands id (hand_of k id) (lose (hand_of k id) i) c.rule.1 at (live_role (hand_of k id).role live) i (loses (hand_of k id) i have),
      )

  pub summed_core : (n : ℕ) → kind_of k i ≡ stripe → IsCore (summed k id i n)
  summed_core n striped =
      let h : Holding = raise (hand_of k id) i n in
      let r = raises (hand_of k id) i n in
      stepped_core k i ((slice_index k.words i + n) % 2 ^ 64) id (raise (hand_of k id) i n) c refl
      (written (raise (hand_of k id) i n) refl (λ e. e) (put_kept (hand_of k id).amounts i ((amount_at i (hand_of k id) + n) % 2 ^ 64) inside)) (
        stripe_law (kind_of k) (above k) tree k.words k.hands id i n (hand_of k id) (raise (hand_of k id) i n) at inside striped r.0 r.1 refl c.rule.0,
        raise_muster k.hands id (hand_of k id) (raise (hand_of k id) i n) c.rule.1 at (live_role (hand_of k id).role live) i n r,
      )

  -- steps that pass a token between the node and its parent, the word p
  module _ (p : ℕ) (is : above k i ≡ p) (apart : p ≢ i) (below : p < length k.words) (node : kind_of k i ≢ stripe) where
    pub descended_core : slice_index k.words i ≡ 0 → tokens_at i (hand_of k id) < 2 ^ 40 → 0 < tokens_at p (hand_of k id) → IsCore (descended k id p i)
    descended_core none room have =
        let m = moves_down (hand_of k id) i p apart have in
        stepped_core k i (slice_index k.words i + 1) id (lose (gain (hand_of k id) i) p) c refl
        (written (lose (gain (hand_of k id) i) p) refl
        (λ e. put_kept (gain (hand_of k id) i).tokens p (tokens_at p (gain (hand_of k id) i) - 1) below
        (put_kept (hand_of k id).tokens i (tokens_at i (hand_of k id) + 1) inside e)) (λ e. e)) (
          first_balance (kind_of k) (above k) tree k.words k.hands id i (hand_of k id) (lose (gain (hand_of k id) i) p) at inside node
              (λ e. apart (sym is ∙ e)) none (subst (λ (q : ℕ). Moves q i (hand_of k id) (lose (gain (hand_of k id) i) p)) (sym is) m)
              c.rule.0,
          move_muster k.hands id (hand_of k id) (lose (gain (hand_of k id) i) p) c.rule.1 at (live_role (hand_of k id).role live) p i room m,
        )

    pub ascended_core : slice_index k.words i ≡ 1 → tokens_at p (hand_of k id) < 2 ^ 40 → 0 < tokens_at i (hand_of k id) → IsCore (ascended k id p i)
    ascended_core one room have =
        let m = moves_up (hand_of k id) i p apart have in
        stepped_core k i (slice_index k.words i - 1) id (gain (lose (hand_of k id) i) p) c refl
        (written (gain (lose (hand_of k id) i) p) refl (λ e. put_kept (lose (hand_of k id) i).tokens p (tokens_at p (lose (hand_of k id) i)
        + 1) below (put_kept (hand_of k id).tokens i (tokens_at i (hand_of k id) - 1) inside e)) (λ e. e)) (
          last_balance (kind_of k) (above k) tree k.words k.hands id i (hand_of k id) (gain (lose (hand_of k id) i) p) at inside node
              (λ e. apart (sym is ∙ e)) one (subst (λ (q : ℕ). Moves i q (hand_of k id) (gain (lose (hand_of k id) i) p)) (sym is) m)
              c.rule.0,
          move_muster k.hands id (hand_of k id) (gain (lose (hand_of k id) i) p) c.rule.1 at (live_role (hand_of k id).role live) i p room m,
        )

-- a core whose word and hand were written is the state after the step
pub closing : (k now : CoreState) (i id x : ℕ) (f : ℕ → ℕ) (v w : Holding) (F : Holding → Holding) → k ≡ now → i < length now.words
    → is_live now id ≡ true → x ≡ get_or k.words i x → v ≡ get_or k.hands id v → w ≡ F v
    → stepped k i (f x) id w ≡ stepped now i (f (slice_index now.words i)) id (F (hand_of now id))
closing k now i id x f v w F same inside live here there is =
    ap (λ (y : ℕ × Holding). stepped k i (f y.0) id y.1) (λ j. (word j, (is ∙ ap F hand) j)) ∙ ap (λ (s : CoreState). stepped s i (f (slice_index s.words i)) id (F (hand_of s id))) same
  where
    word : x ≡ slice_index k.words i
    word = here ∙ read_inside k.words i x 0 (subst (λ (s : CoreState). i < length s.words) (sym same) inside)

    hand : v ≡ hand_of k id
    hand = there ∙ read_inside k.hands id v (empty Spent) (live_below k.hands id (subst (λ (s : CoreState). is_live s id ≡ true) (sym same) live))

-- the element that a core's list of hands has at a live hand's number
module _ (k now : CoreState) (id : ℕ) (v : Holding) (same : k ≡ now) (live : is_live now id ≡ true) (there : v ≡ get_or k.hands id v) where
  pub found : v ≡ hand_of now id
  found = there ∙ read_inside k.hands id v (empty Spent) (live_below k.hands id (subst (λ (s : CoreState). is_live s id ≡ true) (sym same) live)) ∙ ap (λ (s : CoreState). hand_of s id) same

  pub found_tables : IsCore k → (i : ℕ) → i < length now.words → (i < length v.tokens) × (i < length v.amounts)
  found_tables c i inside =
      let core : IsCore now = subst IsCore same c in
      let t = each_at (HasTables (length now.words)) now.hands id (hand_of now id) core.tables (live_at now.hands id live) live in
      let e : length v.tokens ≡ length (hand_of now id).tokens = ap (λ (h : Holding). length h.tokens) found in
      let f : length v.amounts ≡ length (hand_of now id).amounts = ap (λ (h : Holding). length h.amounts) found in
      (omega arith, omega arith)

-- a word that was read
pub word_read : (k now : CoreState) (i j x : ℕ) → k ≡ now → i ≡ j → i < length now.words → x ≡ get_or k.words i x → x ≡ slice_index now.words j
word_read k now i j x same is inside here =
    here ∙ read_inside k.words i x 0 (subst (λ (s : CoreState). i < length s.words) (sym same) inside) ∙ ap (λ (s : CoreState). slice_index s.words i) same ∙ ap (λ (m : ℕ). slice_index now.words m) is
