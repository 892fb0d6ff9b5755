-- Each kind of step makes the core of a board into that after an event.
use Rattle.std.proofs.Common.{◌≡◌, ◌≢◌, ℕ, zero, suc, ◌+◌, ◌-◌, ◌*◌, ◌/◌, ◌%◌, ◌^◌, ◌<◌, ◌≤◌, Bool, true, false, not, ◌&&◌, cond, eqb}
use Rattle.std.proofs.Common.{List, [], ◌∷◌, map, set, get_or, sym, refl, ap, ◌∙◌, subst, arith, lt-ltb, eq-eqb, ne_eqb, Option, None}
use Rattle.std.specs.Prelude.{slice_index, nat_eq, nat_lt, nat_le}
use Rattle.std.proofs.lemmas.List.{set-get_or}
use Rattle.std.proofs.Math.Nat.{mod-lt, div-lt_iff_lt-mul}
use Rattle.std.proofs.lemmas.Bool.{or_from}
use native.Mathlib.Nat.{div-add-mod'}
use native.Mathlib.Decide.{ℕ_discrete, dec_le}
use mathlib.Core.Logic.{dite}
use mathlib.Core.Option.{none, some, some-injective, some-ne-none}
use lib.ListN.{get_elem?}
use lib.Seq.{map-set}
use prog.Atomic.{either}
use Rattle.atomic_table.specs.Table.{State as Table, step, keeps, stepped}
use Rattle.atomic_table.proofs.Lists.{set_again, at_map}
use Rattle.snzi_core.specs.declared.event.Event.TheVariants.{FastAdd, RootAdd, ChildAdd, Leave, StripeAdd}
use Rattle.snzi_core.specs.declared.holding.Holding.{Holding}
use Rattle.snzi_core.specs.declared.holding.Role.{Role}
use Rattle.snzi_core.specs.declared.holding.Role.TheVariants.{Main, Helper, Spent}
use Rattle.snzi_core.specs.declared.unlawful.Unlawful.{Unlawful}
use Rattle.snzi_core.specs.Caps.{token_cap}
use Rattle.snzi_core.specs.Holding.{tokens_at, held, empty, gain, lose, raise}
use Rattle.snzi_core.specs.Shape.{stripe, line, parent, leaves}
use Rattle.snzi_core.specs.CoreState.{CoreState as Core, hand_of, node_of, parent_of, root_of, stripe_of}
use Rattle.snzi_core.specs.Lawful.{lives, refuse, refusal, has_word, has_node, has_stripe, is_live, is_zero, is_at_cap, lacks, passes_up}
use Rattle.snzi_core.specs.Effect.{stepped as core_stepped, arrived, descended, departed, ascended}
use Rattle.snzi_core.proofs.Shapes.{is_node, is_stripe, is_root, parent_is, has_parent}
use Rattle.snzi_core.proofs.Muster.{word_small}
use Rattle.snzi_core.proofs.BalanceSteps.{at_least}
use Rattle.snzi_core.proofs.Hands.{at_held}
use Rattle.snzi_tree.specs.declared.board.View.{View}
use Rattle.snzi_tree.specs.View.{holding, with_holding, BoardRule, Knows, Acts, IsBoard}
use Rattle.snzi_tree.specs.Hands.{IsNodeWord, IsStripeWord, IsRootWord, above}
use Rattle.snzi_tree.specs.BoardEvents.{core_of, Makes, slot_at, place_at, node_at, load_at, exchange_at}
use Rattle.snzi_tree.specs.Tell.{child_added, fast_added, left, added_on}
use Rattle.snzi_tree.proofs.OneToken.{room_above}

pub read_at : (l : List Holding) (id : ℕ) (v d : Holding) → get_elem? l id ≡ some v → get_or l id d ≡ v
read_at [] id v d e = absurd (some-ne-none v (sym e))
read_at (x ∷ xs) zero v d e = some-injective x v e
read_at (x ∷ xs) (suc id) v d e = read_at xs id v d e

alive : (r : Role) → r ≢ Spent → lives r ≡ true
alive (Main n) ne = refl
alive Helper ne = refl
alive Spent ne = absurd (ne refl)

pub passed : (t : Bool) (u : Unlawful) (rest : Option Unlawful) → t ≡ false → rest ≡ None → refuse t u rest ≡ None
passed t u rest e f = subst (λ (b : Bool). refuse b u rest ≡ None) (sym e) f

pub both : (a b : Bool) → a ≡ true → b ≡ true → (a && b) ≡ true
both a b e f = subst (λ (c : Bool). (c && b) ≡ true) (sym e) f

pub no_second : (a b : Bool) → b ≡ false → (a && b) ≡ false
no_second true b e = e
no_second false b e = refl

pub no_first : (a b : Bool) → a ≡ false → (a && b) ≡ false
no_first a b e = subst (λ (c : Bool). (c && b) ≡ false) (sym e) refl

pub below_cap : (a b : ℕ) → a < b → nat_le b a ≡ false
below_cap a b h = grind (arith, h)

module _ (g w l : ℕ) (board : IsBoard g w l) (s : Table (Unit {0}) View) (r : BoardRule (g * (w + l)) w l s) (id : ℕ) (me : Knows)
    (at : get_elem? s.views id ≡ some me.0) (acts : Acts me.0) (j : ℕ) (inside : j < g * (w + l)) where
  abbrev k : Core
  k = core_of g w s

  abbrev h : Holding
  h = me.0.holding

  abbrev x : ℕ
  x = slice_index s.words j

  halves : leaves w ≡ l
  halves = let b = board.4 in omega arith

  some_words : 0 < w + l
  some_words = let b = board.4 in omega arith

  low : slot_at w l j < g
  low = (div-lt_iff_lt-mul some_words).1 inside

  within : place_at w l j < w + l
  within = mod-lt j some_words

  whole : slot_at w l j * (w + l) + place_at w l j ≡ j
  whole = div-add-mod' j (w + l)

  hand_is : hand_of k id ≡ h
  hand_is = read_at (map holding s.views) id h (empty Spent) (at_map holding s.views id me.0 at)

  live : is_live k id ≡ true
  live = ap (λ (v : Holding). lives v.role) hand_is ∙ alive h.role acts

  -- the core after one word and one hand have changed
  made : (i y z : ℕ) (v : Holding) (m : Knows) → i ≡ j → y ≡ z → v ≡ m.0.holding → core_stepped k i y id v ≡ core_of g w (stepped s j z id me.1 m.0 keeps)
  made i y z v m p q e = ap (λ (t : ℕ × ℕ × Holding). core_stepped k t.0 t.1 id t.2) (λ n. (p n, q n, e n))
      ∙ ap (λ (hs : List Holding). record {
        slots = g;
        nodes = w;
        words = set s.words j z;
        hands = hs;
      }) (sym (map-set holding s.views id m.0))

  unchanged : (m : Knows) → m.0.holding ≡ h → k ≡ core_of g w (stepped s j x id me.1 m.0 keeps)
  unchanged m e =
      let same : map holding (set s.views id m.0) ≡ map holding s.views = map-set holding s.views id m.0
      ∙ ap (λ (v : Holding). set (map holding s.views) id v) e ∙ set_again (map holding s.views) id h (at_map holding s.views id me.0 at) in
      ap (λ (t : List ℕ × List Holding). record { slots = g; nodes = w; words = t.0; hands = t.1 }) (λ n. (sym (set-get_or s.words j 0) n, sym same n))

  pub load_makes : (m : Knows) → m.0.holding ≡ h → Makes (load_at w l id j) k (core_of g w (stepped s j x id me.1 m.0 keeps))
  load_makes m e = (
    passed (not (has_word k (slot_at w l j) (place_at w l j))) _ _
        (ap not (both (nat_lt (slot_at w l j) g) (nat_lt (place_at w l j) (w + leaves w)) (lt-ltb (slot_at w l j) g low)
        (lt-ltb (place_at w l j) (w + leaves w) (let a = within in let b = halves in omega arith))))
        (passed (not (is_live k id)) _ _ (ap not live) refl),
    unchanged m e,
  )

  module _ (node : IsNodeWord w l j) where
    place : place_at w l j < w
    place = dite (dec_le (suc (place_at w l j)) w) (λ p. p)
        (λ q. absurd (node (subst (λ (i : ℕ). line w (w + l) i
        ≡ stripe) whole (is_stripe w (w + l) board.0 (slot_at w l j) (place_at w l j) (omega arith) within))))

    word : node_of k (node_at w l j) ≡ j
    word = ap (λ (n : ℕ). slot_at w l j * (w + n) + place_at w l j) halves ∙ whole

    has : has_node k (node_at w l j) ≡ true
    has = both (nat_lt (slot_at w l j) g) (nat_lt (place_at w l j) w) (lt-ltb (slot_at w l j) g low) (lt-ltb (place_at w l j) w place)

    small : x < 18446744073709551615
    small = word_small (line w (w + l)) s.words (map holding s.views) j node r.1

    here : slice_index k.words (node_of k (node_at w l j)) ≡ x
    here = ap (λ (i : ℕ). slice_index s.words i) word

    more : slice_index k.words (node_of k (node_at w l j)) + 1 ≡ (x + 1) % 2 ^ 64
    more = let a = here in let b = small in omega arith

    gained : gain (hand_of k id) (node_of k (node_at w l j)) ≡ gain h j
    gained = ap (λ (t : Holding × ℕ). gain t.0 t.1) (λ n. (hand_is n, word n))

    room_at : (i : ℕ) → i ≡ j → held h < token_cap → is_at_cap k id i ≡ false
    room_at i p few = let a = at_held h j in let b : tokens_at i (hand_of k id) ≡ tokens_at j h =
        ap (λ (t : Holding × ℕ). tokens_at t.1 t.0) (λ n. (hand_is n, p n)) in
        below_cap (tokens_at i (hand_of k id)) 1099511627776 (omega arith)

    root_place : IsRootWord w l j → place_at w l j ≡ 0
    root_place root = dite (ℕ_discrete (place_at w l j) 0) (λ z. z)
        (λ nz. absurd (subst (λ (i : ℕ). parent w (w + l) i ≢ i) whole
        (has_parent w (w + l) board.0 (slot_at w l j) (place_at w l j) (omega arith) place) root))

    child_place : ¬ (IsRootWord w l j) → place_at w l j ≢ 0
    child_place child z =
        let p : slot_at w l j * (w + l) + 0 ≡ j = ap (λ (n : ℕ). slot_at w l j * (w + l) + n) (sym z) ∙ whole in
        child (subst (λ (i : ℕ). parent w (w + l) i ≡ i) p (is_root w (w + l) board.0 (slot_at w l j)))

    root_word : IsRootWord w l j → root_of k (slot_at w l j) ≡ j
    root_word root = ap (λ (n : ℕ). slot_at w l j * (w + leaves w) + n) (sym (root_place root)) ∙ word

    parent_word : ¬ (IsRootWord w l j) → parent_of k (node_at w l j) ≡ above w l j
    parent_word child =
        let nz = child_place child in
        ap (λ (n : ℕ). slot_at w l j * (w + n) + (place_at w l j - 1) / 2) halves
        ∙ sym (parent_is w (w + l) board.0 (slot_at w l j) (place_at w l j) (omega arith) place)
        ∙ ap (λ (i : ℕ). parent w (w + l) i) whole

    pub root_add_makes : (m : Knows) → IsRootWord w l j → held h < token_cap → m.0 ≡ with_holding me.0 (gain h j)
        → Makes (RootAdd id (slot_at w l j)) k (core_of g w (stepped s j ((x + 1) % 2 ^ 64) id me.1 m.0 keeps))
    root_add_makes m root few is =
        let p = root_word root in
        let b = small in
        let a : slice_index s.words (root_of k (slot_at w l j)) ≡ x = ap (λ (i : ℕ). slice_index s.words i) p in (
          passed (not (nat_lt (slot_at w l j) g)) _ _ (ap not (lt-ltb (slot_at w l j) g low))
              (passed (not (is_live k id)) _ _ (ap not live)
              (passed (is_at_cap k id (root_of k (slot_at w l j))) _ _ (room_at (root_of k (slot_at w l j)) p few) refl)),
          made (root_of k (slot_at w l j)) (slice_index s.words (root_of k (slot_at w l j)) + 1) ((x + 1) % 2 ^ 64) (gain (hand_of k id) (root_of k (slot_at w l j))) m p (omega arith)
              (ap (λ (t : Holding × ℕ). gain t.0 t.1) (λ n. (hand_is n, p n)) ∙ sym (ap holding is)),
        )

    pub fast_add_makes : (m : Knows) → 0 < x → held h < token_cap → m.0 ≡ with_holding me.0 (gain h j)
        → Makes (FastAdd id (node_at w l j)) k (core_of g w (stepped s j ((x + 1) % 2 ^ 64) id me.1 m.0 keeps))
    fast_add_makes m filled few is = (
      passed (not (has_node k (node_at w l j))) _ _ (ap not has) (passed (not (is_live k id)) _ _ (ap not live)
          (passed (is_zero k (node_of k (node_at w l j))) _ _ (ne_eqb (slice_index s.words (node_of k (node_at w l j))) 0 (let a = here in omega arith))
          (passed (is_at_cap k id (node_of k (node_at w l j))) _ _ (room_at (node_of k (node_at w l j)) word few) refl))),
      made (node_of k (node_at w l j)) _ ((x + 1) % 2 ^ 64) (gain (hand_of k id) (node_of k (node_at w l j))) m word more (gained ∙ sym (ap holding is)),
    )

    pub exchange_makes : (m : Knows) (slots old : ℕ) → 0 < old → held h < token_cap → fast_added (step slots j old (old + 1) none) me x m
        → Makes (exchange_at w l id j old x) k (core_of g w (stepped s j (either (eqb x old) (old + 1) x) id me.1 m.0 keeps))
    exchange_makes m slots old filled few told = dite (ℕ_discrete x old)
        (λ hit. subst (λ (b : Bool). Makes (cond b (FastAdd id (node_at w l j)) (load_at w l id j)) k (core_of g w (stepped s j (either b (old + 1) x) id me.1 m.0 keeps))) (sym (eq-eqb x old hit))
        (subst (λ (y : ℕ). Makes (FastAdd id (node_at w l j)) k (core_of g w (stepped s j y id me.1 m.0 keeps))) (let b = small in omega arith) (fast_add_makes m (omega arith) few (told.0 hit))))
        (λ miss. subst (λ (b : Bool). Makes (cond b (FastAdd id (node_at w l j)) (load_at w l id j)) k (core_of g w (stepped s j (either b (old + 1) x) id me.1 m.0 keeps))) (sym (ne_eqb x old miss))
        (load_makes m (ap holding (told.1 miss))))

    module _ (child : ¬ (IsRootWord w l j)) where
      at_above : tokens_at (parent_of k (node_at w l j)) (hand_of k id) ≡ tokens_at (above w l j) h
      at_above = ap (λ (t : Holding × ℕ). tokens_at t.1 t.0) (λ n. (hand_is n, parent_word child n))

      taken : lose (gain (hand_of k id) (node_of k (node_at w l j))) (parent_of k (node_at w l j)) ≡ lose (gain h j) (above w l j)
      taken = ap (λ (t : Holding × ℕ × ℕ). lose (gain t.0 t.1) t.2) (λ n. (hand_is n, word n, parent_word child n))

      given_up : gain (lose (hand_of k id) (node_of k (node_at w l j))) (parent_of k (node_at w l j)) ≡ gain (lose h j) (above w l j)
      given_up = ap (λ (t : Holding × ℕ × ℕ). gain (lose t.0 t.1) t.2) (λ n. (hand_is n, word n, parent_word child n))

      pub child_add_makes : (m : Knows) (slots : ℕ) → 0 < tokens_at (above w l j) h → held h < token_cap → child_added w (w + l) (step slots j 1 0 none) me x m
          → Makes (ChildAdd id (node_at w l j)) k (core_of g w (stepped s j ((x + 1) % 2 ^ 64) id me.1 m.0 keeps))
      child_add_makes m slots have few told =
          let there = here in
          let no_root : nat_eq (place_at w l j) 0 ≡ false = ne_eqb (place_at w l j) 0 (child_place child) in (
            passed _ _ _ (or_from (not (has_node k (node_at w l j))) (nat_eq (place_at w l j) 0) (ap not has) no_root) (passed (not (is_live k id)) _ _ (ap not live)
                (passed (lacks k id (parent_of k (node_at w l j))) _ _ (ne_eqb (tokens_at (parent_of k (node_at w l j)) (hand_of k id)) 0 (let a = at_above in omega arith))
                (passed (is_at_cap k id (node_of k (node_at w l j))) _ _ (room_at (node_of k (node_at w l j)) word few) refl))),
            dite (ℕ_discrete x 0)
                (λ zero. ap (λ (b : Bool). cond b (descended k id (parent_of k (node_at w l j)) (node_of k (node_at w l j)))
                (arrived k id (node_of k (node_at w l j)))) (eq-eqb (slice_index s.words (node_of k (node_at w l j))) 0 (there ∙ zero))
                ∙ made (node_of k (node_at w l j)) _ ((x + 1) % 2 ^ 64)
                (lose (gain (hand_of k id) (node_of k (node_at w l j))) (parent_of k (node_at w l j))) m word more (taken
                ∙ sym (ap holding (told.0 zero))))
                (λ nz. ap (λ (b : Bool). cond b (descended k id (parent_of k (node_at w l j)) (node_of k (node_at w l j)))
                (arrived k id (node_of k (node_at w l j))))
                (ne_eqb (slice_index s.words (node_of k (node_at w l j))) 0 (λ z. nz (sym there ∙ z)))
                ∙ made (node_of k (node_at w l j)) _ ((x + 1) % 2 ^ 64) (gain (hand_of k id) (node_of k (node_at w l j))) m word more (gained ∙ sym (ap holding (told.1 nz)))),
          )

    module _ (have : 0 < tokens_at j h) (few : held h ≤ token_cap) where
      abbrev node_word_of : ℕ
      node_word_of = node_of k (node_at w l j)

      abbrev parent_word_of : ℕ
      parent_word_of = parent_of k (node_at w l j)

      filled : 0 < x
      filled = let a = at_least (line w (w + l)) s.words (map holding s.views) id h (at_map holding s.views id me.0 at) j node r.1.0 in omega arith

      less : slice_index s.words node_word_of - 1 ≡ (x + (2 ^ 64 - 1)) % 2 ^ 64
      less = let a = here in let b = small in let c = filled in omega arith

      lost : lose (hand_of k id) node_word_of ≡ lose h j
      lost = ap (λ (t : Holding × ℕ). lose t.0 t.1) (λ n. (hand_is n, word n))

      at_node : tokens_at node_word_of (hand_of k id) ≡ tokens_at j h
      at_node = ap (λ (t : Holding × ℕ). tokens_at t.1 t.0) (λ n. (hand_is n, word n))

      lawful : (passes_up k (node_at w l j) && is_at_cap k id parent_word_of) ≡ false → refusal k (Leave id (node_at w l j)) ≡ None
      lawful room = passed (not (has_node k (node_at w l j))) _ _ (ap not has) (passed (not (is_live k id)) _ _ (ap not live)
          (passed (lacks k id node_word_of) _ _ (ne_eqb (tokens_at node_word_of (hand_of k id)) 0 (let a = at_node in omega arith))
          (passed (passes_up k (node_at w l j) && is_at_cap k id parent_word_of) _ _ room refl)))

      stays : (m : Knows) → passes_up k (node_at w l j) ≡ false → m.0 ≡ with_holding me.0 (lose h j)
          → Makes (Leave id (node_at w l j)) k (core_of g w (stepped s j ((x + (2 ^ 64 - 1)) % 2 ^ 64) id me.1 m.0 keeps))
      stays m e is = (
        lawful (no_first (passes_up k (node_at w l j)) (is_at_cap k id parent_word_of) e),
        ap (λ (b : Bool). cond b (ascended k id parent_word_of node_word_of) (departed k id node_word_of)) e
            ∙ made node_word_of _ ((x + (2 ^ 64 - 1)) % 2 ^ 64) (lose (hand_of k id) node_word_of) m word less (lost ∙ sym (ap holding is)),
      )

      passes : (m : Knows) → ¬ (IsRootWord w l j) → x ≡ 1 → m.0 ≡ with_holding me.0 (gain (lose h j) (above w l j))
          → Makes (Leave id (node_at w l j)) k (core_of g w (stepped s j ((x + (2 ^ 64 - 1)) % 2 ^ 64) id me.1 m.0 keeps))
      passes m child one is =
          let a = at_above child in
          let b = room_above h j (above w l j) child have few in
          let up : passes_up k (node_at w l j) ≡ true =
          both (nat_eq (slice_index s.words node_word_of) 1) (not (nat_eq (place_at w l j) 0))
          (eq-eqb (slice_index s.words node_word_of) 1 (here ∙ one)) (ap not (ne_eqb (place_at w l j) 0 (child_place child))) in (
            lawful (no_second (passes_up k (node_at w l j)) (is_at_cap k id parent_word_of) (below_cap (tokens_at parent_word_of (hand_of k id)) 1099511627776 (omega arith))),
            ap (λ (c : Bool). cond c (ascended k id parent_word_of node_word_of) (departed k id node_word_of)) up
                ∙ made node_word_of _ ((x + (2 ^ 64 - 1)) % 2 ^ 64) (gain (lose (hand_of k id) node_word_of) parent_word_of) m word less (given_up child ∙ sym (ap holding is)),
          )

      pub leave_makes : (m : Knows) (slots : ℕ) → left w (w + l) (step slots j 1 0 none) me x m
          → Makes (Leave id (node_at w l j)) k (core_of g w (stepped s j ((x + (2 ^ 64 - 1)) % 2 ^ 64) id me.1 m.0 keeps))
      leave_makes m slots told = dite (ℕ_discrete (above w l j) j)
          (λ root. stays m (no_second (nat_eq (slice_index s.words node_word_of) 1) (not (nat_eq (place_at w l j) 0)) (ap not (eq-eqb (place_at w l j) 0 (root_place root)))) (told.2 root))
          (λ child. dite (ℕ_discrete x 1)
          (λ one. passes m child one (told.0 one child))
          (λ ne. stays m (no_first (nat_eq (slice_index s.words node_word_of) 1) (not (nat_eq (place_at w l j) 0)) (ne_eqb (slice_index s.words node_word_of) 1 (λ e. ne (sym here ∙ e)))) (told.1 ne)))

  module _ (striped : IsStripeWord w l j) where
    behind : w ≤ place_at w l j
    behind = dite (dec_le w (place_at w l j)) (λ p. p)
        (λ q. absurd (subst (λ (i : ℕ). line w (w + l) i ≢ stripe) whole
        (is_node w (w + l) board.0 (slot_at w l j) (place_at w l j) (omega arith)) striped))

    stripe_is : stripe_of k (slot_at w l j) (place_at w l j - w) ≡ j
    stripe_is =
        let b = behind in
        let back : w + (place_at w l j - w) ≡ place_at w l j = omega arith in
        ap (λ (t : ℕ × ℕ). slot_at w l j * (w + t.0) + t.1) (λ n. (halves n, back n)) ∙ whole

    pub stripe_add_makes : (m : Knows) (slots n : ℕ) → added_on (step slots j n 0 none) me x m
        → Makes (StripeAdd id (slot_at w l j) (place_at w l j - w) n) k (core_of g w (stepped s j ((x + n) % 2 ^ 64) id me.1 m.0 keeps))
    stripe_add_makes m slots n told = (
      passed (not (has_stripe k (slot_at w l j) (place_at w l j - w))) _ _
          (ap not (both (nat_lt (slot_at w l j) g) (nat_lt (place_at w l j - w) (leaves w)) (lt-ltb (slot_at w l j) g low)
          (lt-ltb (place_at w l j - w) (leaves w) (let a = within in let b = halves in let d = behind in omega arith))))
          (passed (not (is_live k id)) _ _ (ap not live) refl),
      made (stripe_of k (slot_at w l j) (place_at w l j - w)) _ ((x + n) % 2 ^ 64) (raise (hand_of k id) (stripe_of k (slot_at w l j) (place_at w l j - w)) n) m stripe_is
          (ap (λ (i : ℕ). (slice_index s.words i + n) % 2 ^ 64) stripe_is)
          (ap (λ (t : Holding × ℕ). raise t.0 t.1 n) (λ i. (hand_is i, stripe_is i)) ∙ sym (ap holding told.0)),
    )
