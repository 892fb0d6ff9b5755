-- The events that hands count, as the list of hands changes.
use Rattle.std.proofs.Common.{◌≡◌, ℕ, zero, suc, ◌+◌, List, [], ◌∷◌, ◌++◌, map, set, get_or, sym, ap, ◌∙◌, subst, arith}
use mathlib.Core.Option.{some, some-injective, some-ne-none}
use mathlib.Core.List.{map-append}
use lib.ListN.{get_elem?}
use lib.Seq.{map-set}
use Rattle.snzi_core.specs.declared.holding.Role.TheVariants.{Spent}
use Rattle.snzi_core.specs.Holding.{empty}
use Rattle.snzi_tree.specs.declared.board.Tally.{Tally}
use Rattle.snzi_tree.specs.declared.board.View.{View}
use Rattle.snzi_tree.specs.View.{holding}
use Rattle.snzi_tree.specs.Tallies.{view_of, events_in, all_events, SpentCountNothing}

pub all_set : (l : List Tally) (id : ℕ) (v w : Tally) → get_elem? l id ≡ some v → all_events (set l id w) + events_in v ≡ all_events l + events_in w
all_set [] id v w e = absurd (some-ne-none v (sym e))
all_set (x ∷ xs) zero v w e = let is : events_in x ≡ events_in v = ap events_in (some-injective x v e) in omega arith
all_set (x ∷ xs) (suc id) v w e = let r = all_set xs id v w e in omega arith

pub all_snoc : (l : List Tally) (w : Tally) → all_events (l ++ w ∷ []) ≡ all_events l + events_in w
all_snoc [] w = omega arith
all_snoc (x ∷ xs) w = let r = all_snoc xs w in omega arith

pub spent_set : (l : List Tally) (id : ℕ) (w : Tally) → SpentCountNothing l → (w.view.holding.role ≡ Spent → events_in w ≡ 0) → SpentCountNothing (set l id w)
spent_set [] id w all new = tt
spent_set (x ∷ xs) zero w all new = (new, all.1)
spent_set (x ∷ xs) (suc id) w all new = (all.0, spent_set xs id w all.1 new)

pub spent_snoc : (l : List Tally) (w : Tally) → SpentCountNothing l → (w.view.holding.role ≡ Spent → events_in w ≡ 0) → SpentCountNothing (l ++ w ∷ [])
spent_snoc [] w all new = (new, tt)
spent_snoc (x ∷ xs) w all new = (all.0, spent_snoc xs w all.1 new)

-- where all are spent, nothing is counted
none_counted : (l : List Tally) → SpentCountNothing l → ((id : ℕ) → (get_or (map holding (map view_of l)) id (empty Spent)).role ≡ Spent) → all_events l ≡ 0
none_counted [] all spent = omega arith
none_counted (x ∷ xs) all spent = let a = all.0 (spent 0) in let r = none_counted xs all.1 (λ id. spent (suc id)) in omega arith

-- where all but the first are spent, the first counts all
pub first_counts : (l : List Tally) (v : Tally) → get_elem? l 0 ≡ some v → SpentCountNothing l
    → ((id : ℕ) → (get_or (map holding (map view_of l)) (id + 1) (empty Spent)).role ≡ Spent) → all_events l ≡ events_in v
first_counts [] v at all spent = absurd (some-ne-none v (sym at))
first_counts (x ∷ xs) v at all spent =
    let is : events_in x ≡ events_in v = ap events_in (some-injective x v at) in
    let next : (id : ℕ) → id + 1 ≡ suc id = λ id. omega arith in
    let r = none_counted xs all.1 (λ id. subst (λ (n : ℕ). (get_or (map holding (map view_of (x ∷ xs))) n (empty Spent)).role ≡ Spent) (next id) (spent id)) in omega arith

pub views_set : (l : List Tally) (id : ℕ) (t : Tally) → map view_of (set l id t) ≡ set (map view_of l) id t.view
views_set l id t = map-set view_of l id t

pub views_split : (l : List Tally) (id : ℕ) (t u : Tally) → map view_of (set l id t ++ u ∷ []) ≡ set (map view_of l) id t.view ++ u.view ∷ []
views_split l id t u = map-append view_of (set l id t) (u ∷ []) ∙ ap (λ (vs : List View). vs ++ u.view ∷ []) (views_set l id t)
