-- A core after a join.
use Rattle.std.proofs.Common.{◌≡◌, ◌≢◌, ℕ, zero, suc, ◌+◌, ◌^◌, ◌<◌, ◌≤◌, Bool, true, false, List, [], ◌∷◌, ◌++◌, take, drop, length, set}
use Rattle.std.proofs.Common.{get_or, refl, sym, ap, ◌∙◌, subst, arith, true≢false, length-set}
use Rattle.std.proofs.lemmas.List.{take-append-le, take_all}
use Rattle.std.specs.List.{list_any, range_with_len}
use Rattle.std.proofs.lemmas.Bool.{ltb-false, or_parts}
use mathlib.Core.Logic.{dite}
use native.Mathlib.Decide.{ℕ_discrete, dec_le}
use mathlib.Core.Option.{some}
use lib.ListN.{get_elem?}
use Rattle.snzi_core.specs.declared.holding.Holding.{Holding}
use Rattle.snzi_core.specs.declared.holding.Role.{Role}
use Rattle.snzi_core.specs.declared.holding.Role.TheVariants.{Main, Helper, Spent}
use Rattle.snzi_core.specs.Holding.{empty, main_weight, tokens_at, rejoined, merged}
use Rattle.snzi_core.specs.Changes.{Unites}
use Rattle.snzi_core.specs.CoreState.{CoreState, hand_of, kind_of, above, span}
use Rattle.snzi_core.specs.Lawful.{lives, helps, some_word, overflows}
use Rattle.snzi_core.specs.Effect.{joined}
use Rattle.snzi_core.specs.Kept.{HasTables, IsCore}
use Rattle.snzi_core.proofs.NumberLists.{at_merged}
use Rattle.snzi_core.proofs.TableRewrites.{length_merged, length_wrapped}
use Rattle.snzi_core.proofs.Presence.{past_end}
use Rattle.snzi_core.proofs.Shapes.{is_family}
use Rattle.snzi_core.proofs.Muster.{each_set, each_at}
use Rattle.snzi_core.proofs.SplitBalance.{join_law, one_back_main}
use Rattle.snzi_core.proofs.Hands.{unites}
use Rattle.snzi_core.proofs.CoreSteps.{live_at, shape_of}
use Rattle.snzi_core.proofs.CoreSplits.{main_live}

pub is_helper : (r : Role) → helps r ≡ true → r ≡ Helper
is_helper (Main n) e = absurd (true≢false (sym e))
is_helper Helper e = refl
is_helper Spent e = absurd (true≢false (sym e))

pub helper_lives : (r : Role) → helps r ≡ true → lives r ≡ true
helper_lives r e = ap lives (is_helper r e)

helper_no_main : (r : Role) → helps r ≡ true → main_weight r ≡ 0
helper_no_main r e = ap main_weight (is_helper r e)

-- a test that no word of a range passes fails at each of them
none_at : (test : ℕ → Bool) (from n i : ℕ) → list_any test (range_with_len from n) ≡ false → from ≤ i → i < from + n → test i ≡ false
none_at test from zero i e low high = absurd (omega arith)
none_at test from (suc n) i e low high =
    let b = or_parts (test from) (list_any test (range_with_len (from + 1) n)) e in
    dite (ℕ_discrete i from)
    (λ same. ap test same ∙ b.0)
    (λ ne. none_at test (from + 1) n i b.1 (omega arith) (omega arith))

at_other : (hands : List Holding) (id other : ℕ) (h w : Holding) → other ≢ id → get_elem? hands other ≡ some w → get_elem? (set hands id h) other ≡ some w
at_other [] id other h w ne e = e
at_other (x ∷ xs) zero zero h w ne e = absurd (ne refl)
at_other (x ∷ xs) zero (suc other) h w ne e = e
at_other (x ∷ xs) (suc id) zero h w ne e = e
at_other (x ∷ xs) (suc id) (suc other) h w ne e = at_other xs id other h w (λ same. ne (ap suc same)) e

pub first_tables : (k : CoreState) → IsCore k → length (hand_of k 0).tokens ≡ length k.words
first_tables k c = (each_at (HasTables (length k.words)) k.hands 0 (hand_of k 0) c.tables (live_at k.hands 0 (main_live k c)) (main_live k c)).0

module _ (k : CoreState) (c : IsCore k) (helper : ℕ) (is : helps (hand_of k helper).role ≡ true) where
  main : Holding
  main = hand_of k 0

  pub no_main : helper ≢ 0
  no_main e =
      let a : main_weight (hand_of k 0).role ≡ 0 = subst (λ (j : ℕ). main_weight (hand_of k j).role ≡ 0) e (helper_no_main (hand_of k helper).role is) in
      let b = c.main in absurd (omega arith)

  at_main : get_elem? k.hands 0 ≡ some (hand_of k 0)
  at_main = live_at k.hands 0 (main_live k c)

  at_helper : get_elem? k.hands helper ≡ some (hand_of k helper)
  at_helper = live_at k.hands helper (helper_lives (hand_of k helper).role is)

  pub main_tables : (length (hand_of k 0).tokens ≡ length k.words) × (length (hand_of k 0).amounts ≡ length k.words)
  main_tables = each_at (HasTables (length k.words)) k.hands 0 (hand_of k 0) c.tables at_main (main_live k c)

  pub helper_tables : (length (hand_of k helper).tokens ≡ length k.words) × (length (hand_of k helper).amounts ≡ length k.words)
  helper_tables = each_at (HasTables (length k.words)) k.hands helper (hand_of k helper) c.tables at_helper (helper_lives (hand_of k helper).role is)

  united : Unites (hand_of k 0) (hand_of k helper) (rejoined (hand_of k 0) (hand_of k helper))
  united = unites (hand_of k 0) (hand_of k helper) c.main (is_helper (hand_of k helper).role is)

  pub together : some_word k (overflows k helper) ≡ false → (i : ℕ) → tokens_at i (hand_of k 0) + tokens_at i (hand_of k helper) ≤ 2 ^ 40
  together none i = dite (dec_le (length k.words) i)
      (λ far. let t = main_tables.0 in let u = helper_tables.0 in let a = past_end (hand_of k 0).tokens i (omega arith) in let b = past_end (hand_of k helper).tokens i (omega arith) in omega arith)
      (λ near. ltb-false 1099511627776 (tokens_at i (hand_of k 0) + tokens_at i (hand_of k helper)) (none_at (overflows k helper) 0 (length k.words) i none (omega arith) (omega arith)))

  at_first : (hands : List Holding) (j : ℕ) (x y : Holding) → j ≢ 0 → lives (get_or hands 0 (empty Spent)).role ≡ true → get_or (set (set hands 0 x) j y) 0 (empty Spent) ≡ x
  at_first [] j x y ne e = absurd (true≢false (sym e))
  at_first (h ∷ hs) zero x y ne e = absurd (ne refl)
  at_first (h ∷ hs) (suc j) x y ne e = refl

  rejoined_tables : HasTables (length k.words) (rejoined (hand_of k 0) (hand_of k helper))
  rejoined_tables _ = (
    length_merged (hand_of k 0).tokens (hand_of k helper).tokens (helper_tables.0 ∙ sym main_tables.0) ∙ main_tables.0,
    length_wrapped (merged (hand_of k 0).amounts (hand_of k helper).amounts) ∙ length_merged (hand_of k 0).amounts (hand_of k helper).amounts (helper_tables.1 ∙ sym main_tables.1) ∙ main_tables.1,
  )

  pub join_core : some_word k (overflows k helper) ≡ false → IsCore (joined k helper)
  join_core none = record {
    odd = c.odd;
    words = c.words;
    main = ap (λ (h : Holding). main_weight h.role) (at_first k.hands helper (rejoined (hand_of k 0) (hand_of k helper)) (empty Spent)
        no_main (main_live k c)) ∙ one_back_main (hand_of k 0).role ∙ c.main;
    made = let a = length-set (set k.hands 0 (rejoined (hand_of k 0) (hand_of k helper))) helper (empty Spent) in
        let b = length-set k.hands 0 (rejoined (hand_of k 0) (hand_of k helper)) in let m = c.made in omega arith;
    tables = each_set (HasTables (length k.words)) (set k.hands 0 (rejoined (hand_of k 0) (hand_of k helper))) helper (empty Spent)
        (each_set (HasTables (length k.words)) k.hands 0 (rejoined (hand_of k 0) (hand_of k helper)) c.tables rejoined_tables)
        (λ alive. absurd (true≢false (sym alive)));
    rule = join_law (kind_of k) (above k) (is_family k.nodes (span k) (shape_of k c)) k.words k.hands 0 (hand_of k 0) at_main helper (hand_of k helper) (rejoined (hand_of k 0) (hand_of k helper))
        (at_other k.hands 0 helper (rejoined (hand_of k 0) (hand_of k helper)) (hand_of k helper) no_main at_helper) united
        (λ i. let a = at_merged (hand_of k 0).tokens (hand_of k helper).tokens i in let b = together none i in omega arith) c.rule;
  }

-- a list that was written whole in place of another
pub whole : (ys xs : List Holding) (n : ℕ) → n ≡ length ys → take n (ys ++ drop (length ys) xs) ≡ ys
whole ys xs n e = take-append-le n ys (drop (length ys) xs) (omega arith) ∙ take_all n ys (omega arith)
