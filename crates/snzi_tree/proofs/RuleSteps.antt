-- A word and a hand change as a law of the core says, and the rule of a board is kept.
use Rattle.std.proofs.Common.{◌≡◌, ℕ, zero, suc, ◌+◌, ◌<◌, List, [], ◌∷◌, ◌++◌, map, set, length, sym, ap, ◌∙◌, subst, arith, length-set}
use Rattle.std.specs.Prelude.{slice_index}
use Rattle.std.proofs.lemmas.List.{set-get_or}
use mathlib.Core.Option.{some, some-injective, some-ne-none}
use lib.ListN.{get_elem?}
use lib.Seq.{map-set}
use Rattle.atomic_table.specs.Table.{State, keeps, stepped}
use Rattle.atomic_table.proofs.Lists.{set_again, at_map}
use Rattle.snzi_core.specs.declared.holding.Holding.{Holding}
use Rattle.snzi_core.specs.Holding.{main_weight}
use Rattle.snzi_core.specs.Shape.{WordKind, line}
use Rattle.snzi_core.specs.Balance.{Ruled}
use Rattle.snzi_core.specs.Laws.{Keeps}
use Rattle.snzi_tree.specs.declared.board.View.{View}
use Rattle.snzi_tree.specs.View.{holding, with_holding, MainFirst, BoardRule, Knows, Acts}

abbrev pub Board : Type 0
Board = State (Unit {0}) View

-- main is still the first where no hand comes to be main or ceases to be
pub main_weighed : (views : List View) (id : ℕ) (v u : View) → get_elem? views id ≡ some v → main_weight u.holding.role ≡ main_weight v.holding.role → MainFirst views → MainFirst (set views id u)
main_weighed [] id v u at same m = m
main_weighed (x ∷ xs) zero v u at same m = same ∙ ap (λ (y : View). main_weight y.holding.role) (sym (some-injective x v at)) ∙ m
main_weighed (x ∷ xs) (suc id) v u at same m = m

-- a hand that is not main is spent
pub main_left : (views : List View) (other : ℕ) (u y : View) → get_elem? views other ≡ some u → main_weight u.holding.role ≡ 0 → MainFirst views → MainFirst (set views other y)
main_left [] other u y at lacks m = m
main_left (x ∷ xs) zero u y at lacks m = let e : main_weight x.holding.role ≡ 0 = ap (λ (z : View). main_weight z.holding.role) (some-injective x u at) ∙ lacks in absurd (omega arith)
main_left (x ∷ xs) (suc other) u y at lacks m = m

-- a hand more
pub main_followed : (views : List View) (id : ℕ) (v u y : View) → get_elem? views id ≡ some v
    → main_weight u.holding.role ≡ main_weight v.holding.role → MainFirst views → MainFirst (set views id u ++ y ∷ [])
main_followed [] id v u y at same m = absurd (some-ne-none v (sym at))
main_followed (x ∷ xs) zero v u y at same m = main_weighed (x ∷ xs) zero v u at same m
main_followed (x ∷ xs) (suc id) v u y at same m = m

module _ (n w l : ℕ) where
  abbrev pub Rule : Board → Type 0
  Rule = BoardRule n w l

  abbrev pub kind : ℕ → WordKind
  kind = line w (w + l)

  module _ (st : Board) (r : Rule st) (id : ℕ) (me : Knows) (at : get_elem? st.views id ≡ some me.0) (j : ℕ) where
    -- what the hand holds, among what all hands hold
    pub held_there : get_elem? (map holding st.views) id ≡ some me.0.holding
    held_there = at_map holding st.views id me.0 at

    pub word_there : j < n → j < length st.words
    word_there inside = subst (λ (k : ℕ). j < k) (sym r.0) inside

    -- one word and one hand change as a law says
    pub changed : (x : ℕ) (g : Holding) (room : Type 0) → g.role ≡ me.0.holding.role → Acts me.0
        → Keeps kind st.words (map holding st.views) id j me.0.holding x g room → room
        → Rule (stepped st j x id me.1 (with_holding me.0 g) keeps)
    changed x g room same acts law has = (
      length-set st.words j x ∙ r.0,
      subst (λ (hs : List Holding). Ruled kind (set st.words j x) hs) (sym (map-set holding st.views id (with_holding me.0 g))) (law.0 r.1.0, law.1 r.1.1 acts has),
      main_weighed st.views id me.0 (with_holding me.0 g) at (ap main_weight same) r.2,
    )

    -- nothing changes
    pub unmoved : Rule (stepped st j (slice_index st.words j) id me.1 me.0 keeps)
    unmoved = subst (λ (z : List ℕ × List View). Rule (record { words = z.0; homes = st.homes; views = z.1 })) (λ i. (sym (set-get_or st.words j 0) i, sym (set_again st.views id me.0 at) i)) r
