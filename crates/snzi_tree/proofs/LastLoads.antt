-- Main, with no helper out, learns by a load that a run of the core came to what it has.
use Rattle.std.proofs.Common.{◌≡◌, ◌≢◌, ℕ, zero, suc, ◌+◌, ◌*◌, ◌%◌, ◌^◌, ◌<◌, ◌↔◌, List, [], ◌∷◌, map, get_or, sym, refl, ap, ◌∙◌, subst, arith}
use Rattle.std.specs.Prelude.{slice_index}
use mathlib.Core.Option.{none, some, some-injective}
use lib.ListN.{get_elem?}
use Rattle.atomic_table.specs.Table.{State as Table, step, keeps, Allows}
use Rattle.std.proofs.lemmas.List.{set-get_or}
use Rattle.atomic_table.proofs.Lists.{at_map, set_again}
use Rattle.snzi_core.specs.declared.holding.Holding.{Holding}
use Rattle.snzi_core.specs.declared.holding.Role.{Role}
use Rattle.snzi_core.specs.declared.holding.Role.TheVariants.{Main, Helper, Spent}
use Rattle.snzi_core.specs.Holding.{main_weight, helper_weight, out, empty}
use Rattle.snzi_core.specs.Laws.{MainKnows}
use Rattle.snzi_core.specs.Shape.{line, stripe, parent}
use Rattle.snzi_core.specs.Balance.{total, mains, helpers, outs, Mustered, Covers}
use Rattle.snzi_core.specs.CoreState.{hand_of}
use Rattle.snzi_core.proofs.Muster.{sole, no_main_no_out}
use Rattle.snzi_tree.specs.declared.board.View.{View}
use Rattle.snzi_tree.specs.declared.board.Tally.{Tally}
use Rattle.snzi_tree.specs.View.{holding, BoardRule, IsBoard}
use Rattle.snzi_tree.specs.BoardEvents.{core_of}
use Rattle.snzi_tree.specs.Tallies.{view_of, Seated, plain, events_in, all_events, SpentCountNothing, HasRun, RunRule}
use Rattle.snzi_tree.specs.Ended.{HasEnded, ended}
use Rattle.snzi_tree.proofs.SplitEvents.{is_first, first_is}
use Rattle.snzi_tree.proofs.Tallies.{first_counts}

weightless : (r : Role) → main_weight r ≡ 0 → helper_weight r ≡ 0 → r ≡ Spent
weightless (Main n) a b = absurd (omega arith)
weightless Helper a b = absurd (omega arith)
weightless Spent a b = refl

all_spent : (l : List Holding) → total mains l ≡ 0 → total helpers l ≡ 0 → (id : ℕ) → (get_or l id (empty Spent)).role ≡ Spent
all_spent [] a b id = refl
all_spent (x ∷ xs) a b zero = weightless x.role (omega arith) (omega arith)
all_spent (x ∷ xs) a b (suc id) = all_spent xs (omega arith) (omega arith) id

-- where the first hand is main and has no helper out, the others are spent
others_spent : (l : List Holding) (v : Holding) → Mustered l → get_elem? l 0 ≡ some v → v.role ≡ Main 0 → (id : ℕ) → (get_or l (id + 1) (empty Spent)).role ≡ Spent
others_spent [] v m at main id = refl
others_spent (x ∷ xs) v m at main id =
    let one : mains v ≡ 1 = ap main_weight main in
    let none_out : outs v ≡ 0 = ap out main in
    let a = sole outs mains (λ h _ e. no_main_no_out h.role e) (x ∷ xs) 0 v m.3 at (m.0 ∙ sym one) in
    let b = m.1 in
    let c = m.0 in
    let d : mains x ≡ mains v = ap mains (some-injective x v at) in
    let next : suc id ≡ id + 1 = omega arith in
    subst (λ (n : ℕ). (get_or (x ∷ xs) n (empty Spent)).role ≡ Spent) next (all_spent xs (omega arith) (omega arith) id)

module _ (g w l : ℕ) (board : IsBoard g w l) (t : Table (Unit {0}) Tally) (r : BoardRule (g * (w + l)) w l (plain t)) (ran : HasRun g w t)
    (bare : SpentCountNothing t.views) (knows : MainKnows) (id : ℕ) (u : Tally) (seat : get_elem? t.views id ≡ some u)
    (main : u.view.holding.role ≡ Main 0) where
  abbrev s : Table (Unit {0}) View
  s = plain t

  abbrev v : View
  v = u.view

  at : get_elem? s.views id ≡ some v
  at = at_map view_of t.views id u seat

  there : get_elem? (map holding s.views) id ≡ some v.holding
  there = at_map holding s.views id v at

  first : id ≡ 0
  first = is_first g w l board s r id v at (ap main_weight main)

  own : hand_of (core_of g w s) 0 ≡ v.holding
  own = first_is g w l board s r id v at first

  others : (n : ℕ) → (get_or (map holding s.views) (n + 1) (empty Spent)).role ≡ Spent
  others n = others_spent (map holding s.views) v.holding r.1.1 (subst (λ (m : ℕ). get_elem? (map holding s.views) m ≡ some v.holding) first there) main n

  counted : all_events t.views ≡ events_in u
  counted = first_counts t.views u (subst (λ (m : ℕ). get_elem? t.views m ≡ some u) first seat) bare others

  pub has_ended : HasEnded g w l (events_in u) v.holding
  has_ended =
      let (es, k, comes, like, long) = ran in
      let one = like.4 0 in (
        es,
        k,
        comes,
        long ∙ counted,
        (
          subst (λ (h : Holding). ((hand_of k 0).role ≡ h.role) × ((i : ℕ) → (slice_index (hand_of k 0).tokens i ≡ slice_index h.tokens i)
              × (slice_index (hand_of k 0).amounts i ≡ slice_index h.amounts i))) own one,
          λ n. (like.4 (n + 1)).0 ∙ others n,
        ),
        λ j.
            let told = knows w (w + l) s.words (map holding s.views) id j v.holding board.0 r.1 there main in
            subst (λ (ws : List ℕ). (line w (w + l) j ≡ stripe → slice_index ws j ≡ slice_index v.holding.amounts j % 2 ^ 64)
            × (line w (w + l) j ≢ stripe → 0 < slice_index ws j ↔ Covers (parent w (w + l)) v.holding j)) (sym like.2) told,
      )

pub ends : (g w l slots id j : ℕ) (me : Seated) → IsBoard g w l → MainKnows → Allows (RunRule g w l) slots id me j (λ x. x) (ended g w l (step slots j 0 0 none) me)
ends g w l slots id j me board knows s rule homes at small = (
  me.0,
  keeps,
  tt,
  subst (λ (z : List ℕ × List Tally). RunRule g w l (record { words = z.0; homes = s.homes; views = z.1 })) (λ i. (sym (set-get_or s.words j 0) i, sym (set_again s.views id me.0 at) i)) rule,
  (refl, refl, λ alone. has_ended g w l board s rule.0 rule.1 rule.2 knows id me.0 at alone),
)
