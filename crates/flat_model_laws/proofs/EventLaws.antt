-- What a counted fork raises, and that no event total is above the number of recorded commands.
use Rattle.std.proofs.Common.{◌≡◌, ◌≢◌, ◌↔◌, ℕ, ◌+◌, Bool, true, false, cond, not, ◌&&◌, List, [], ◌∷◌, length, Option, Some, None, refl, sym, ap, subst, ◌∙◌, arith}
use Rattle.std.specs.Prelude.{option_map}
use Rattle.std.specs.FinMap.{get}
use Rattle.std.proofs.Math.Bool.{and-false}
use Rattle.std.proofs.lemmas.Bool.{false_from_ne_true}
use Rattle.flat_model.specs.Path.{Path, HasPrefix, at_or_below, same_path, is_root}
use Rattle.flat_model.specs.State.{State, Attr}
use Rattle.flat_model.specs.Command.{Command, Refusal, Exists}
use Rattle.flat_model.specs.Command.{NoGroup, Descendants, Depth, NoSlot, RootFixed, HasChildren, HasProcesses, NoProcess, PidInUse}
use Rattle.flat_model.specs.Command.{OverPidsMax, NoFile, NotReadable, is_undo, changes, is_counted}
use Rattle.flat_model.specs.Step.{refusal, after, after_refusal, at_each, counts_for, count_up}
use Rattle.flat_model.specs.Machine.{Machine, new_machine, recorded, outcome, undone, tick, end_of, after_all}
use Rattle.flat_model.specs.EventTotals.{IsCounted, HasEventsUpTo, PastEventsBounded, EventsBounded}
use Rattle.flat_model.proofs.PathLaws.{path_cmp-IsTotalOrder, path_cmp-IsAntisymmetric, same_path_is, at_or_below_is, not_empty_is_not_root}
use Rattle.flat_model.proofs.Maps.{get-each}
use Rattle.flat_model.proofs.Booleans.{both_by}
use Rattle.flat_model.proofs.Reachable.{only_root}
use Rattle.flat_model.proofs.EventBounds.{IsUpTo, up_more, up_after, up_refused}

-- ---- one counted fork

pub counts_above : (a p : Path) → HasPrefix a p → p ≢ [] → counts_for a p ≡ true
counts_above a p h n = λ i. not (not_empty_is_not_root p n i) && (at_or_below_is a p).1 h i

pub counts_else : (a p : Path) → (HasPrefix a p → p ≡ []) → counts_for a p ≡ false
counts_else a p h = elim (at_or_below a p) as (λ b. at_or_below a p ≡ b → (not (is_root p) && b) ≡ false) [
  | true ↦ λ t. let e = h ((at_or_below_is a p).0 t) in ap (λ (q : Path). not (is_root q) && true) e
  | false ↦ λ t. and-false (not (is_root p))
] refl

no_more : (n : ℕ) (b : Bool) → b ≡ false → n + cond b 1 0 ≡ n
no_more n b e = ap (λ c. n + cond c 1 0) e ∙ (let z : n + 0 ≡ n = omega arith in z)

one_more : (n : ℕ) (b : Bool) → b ≡ true → n + cond b 1 0 ≡ n + 1
one_more n b e = ap (λ c. n + cond c 1 0) e

counted_up : (a p : Path) (x : Attr) → IsCounted a p x (count_up a p x)
counted_up a p x = record {
  limits = refl;
  peak = refl;
  local = λ e. one_more x.local (same_path p a) ((same_path_is p a).1 e);
  local_else = λ n. no_more x.local (same_path p a) (false_from_ne_true (same_path p a) (λ t. n ((same_path_is p a).0 t)));
  total = λ h n. one_more x.total (counts_for a p) (counts_above a p h n);
  total_else = λ h. no_more x.total (counts_for a p) (counts_else a p h);
}

-- each number is one by each of two tests that say the same
number_is : (n m : ℕ) (b : Bool) → (b ≡ true → m ≡ n + 1) → (b ≡ false → m ≡ n) → m ≡ n + cond b 1 0
number_is n m true h g = h refl
number_is n m false h g = let e = g refl in omega (arith, e)

prefix_of : (a p : Path) → counts_for a p ≡ true → HasPrefix a p × (is_root p ≡ false)
prefix_of a p h = let two = both_by (is_root p) (at_or_below a p) h in ((at_or_below_is a p).0 two.1, two.0)

no_root : (p : Path) → is_root p ≡ false → p ≢ []
no_root p h e = let t : is_root p ≡ true = ap is_root e in cc

root_or : (a p : Path) → HasPrefix a p → counts_for a p ≡ false → p ≡ []
root_or a [] h f = refl
root_or a (n ∷ p) h f = let t : counts_for a (n ∷ p) ≡ true = counts_above a (n ∷ p) h (no_root (n ∷ p) refl) in cc

-- nothing else is counted
only_up : (a p : Path) (x y : Attr) → IsCounted a p x y → y ≡ count_up a p x
only_up a p x y c =
    let one = number_is x.local y.local (same_path p a) (λ t. c.local ((same_path_is p a).0 t)) (λ f. c.local_else (λ e. let t : same_path p a ≡ true = (same_path_is p a).1 e in cc)) in
    let all = number_is x.total y.total (counts_for a p) (λ t. let two = prefix_of a p t in c.total two.0 (no_root p two.1)) (λ f. c.total_else (λ h. root_or a p h f)) in
    let limits = c.limits in
    let peak = c.peak in
    λ i. record { limits = limits i; local = one i; total = all i; peak = peak i }

pub counted_is : (a p : Path) (x y : Attr) → IsCounted a p x y ↔ (y ≡ count_up a p x)
counted_is a p x y = (only_up a p x y, λ e. subst (IsCounted a p x) (sym e) (counted_up a p x))

each_up : (s : State) (a p : Path) → get (at_each (count_up a) s).groups p ≡ option_map (count_up a p) (get s.groups p)
each_up s a p = get-each path_cmp-IsTotalOrder path_cmp-IsAntisymmetric (count_up a) s.groups p

pub counted : (s : State) (a p : Path) (x : Attr) → get s.groups p ≡ Some x → (y : Attr) × (get (after_refusal s (OverPidsMax a)).groups p ≡ Some y) × IsCounted a p x y
counted s a p x h = (count_up a p x, each_up s a p ∙ ap (option_map (count_up a p)) h, counted_up a p x)

pub none_counted : (s : State) (a p : Path) → get s.groups p ≡ None → get (after_refusal s (OverPidsMax a)).groups p ≡ None
none_counted s a p h = each_up s a p ∙ ap (option_map (count_up a p)) h

pub others_change_nothing : (s : State) (r : Refusal) → is_counted r ≡ false → after_refusal s r ≡ s
others_change_nothing s (OverPidsMax a) e = cc
others_change_nothing s Exists e = refl
others_change_nothing s (NoGroup p) e = refl
others_change_nothing s (Descendants p) e = refl
others_change_nothing s (Depth p) e = refl
others_change_nothing s NoSlot e = refl
others_change_nothing s RootFixed e = refl
others_change_nothing s HasChildren e = refl
others_change_nothing s HasProcesses e = refl
others_change_nothing s (NoProcess p) e = refl
others_change_nothing s (PidInUse p) e = refl
others_change_nothing s NoFile e = refl
others_change_nothing s NotReadable e = refl

-- ---- how far the totals get

bounded_recorded : (m : Machine) (c : Command) (s : State) → EventsBounded m → HasEventsUpTo (length m.past + 1) s → EventsBounded (recorded m c s)
bounded_recorded m c s b h = (up_more (length m.past + 1) (length ((c, m.state) ∷ m.past)) s (omega arith) h, (b.0, b.1))

bounded_outcome : (m : Machine) (c : Command) (o : Option Refusal) → EventsBounded m → EventsBounded (outcome m c o).0
bounded_outcome m c None b = elim (changes c) as (λ t. EventsBounded (cond t (recorded m c (after m.state c)) m)) [
  | true ↦ bounded_recorded m c (after m.state c) b (up_more (length m.past) (length m.past + 1) (after m.state c) (omega arith) (up_after (length m.past) m.state c b.0))
  | false ↦ b
]
bounded_outcome m c (Some r) b = elim (is_counted r) as (λ t. EventsBounded (cond t (recorded m c (after_refusal m.state r)) m)) [
  | true ↦ bounded_recorded m c (after_refusal m.state r) b (up_refused (length m.past) m.state r b.0)
  | false ↦ b
]

bounded_undone : (s : State) (past : List (Command × State)) → HasEventsUpTo (length past) s → PastEventsBounded past → EventsBounded (undone s past).0
bounded_undone s [] h b = (h, b)
bounded_undone s (e ∷ past) h b = b

-- a step keeps the totals bounded by what is recorded
pub tick_bounded : (slots : ℕ) (m : Machine) (c : Command) → EventsBounded m → EventsBounded (tick slots m c).0
tick_bounded slots m c b =
    elim (is_undo c) as (λ t. EventsBounded (cond t (undone m.state m.past) (outcome m c (refusal slots m.state c))).0) [
      | true ↦ bounded_undone m.state m.past b.0 b.1
      | false ↦ bounded_outcome m c (refusal slots m.state c) b
    ]

run_bounded : (slots : ℕ) (m : Machine) (cs : List Command) → EventsBounded m → EventsBounded (end_of slots m cs)
run_bounded slots m [] b = b
run_bounded slots m (c ∷ cs) b = run_bounded slots (tick slots m c).0 cs (tick_bounded slots m c b)

pub reached_bounded : (slots : ℕ) (cs : List Command) → EventsBounded (after_all slots cs)
reached_bounded slots cs = run_bounded slots new_machine cs (λ p attr h. subst (IsUpTo 0) (only_root p attr h).1 (omega arith, omega arith), tt)
