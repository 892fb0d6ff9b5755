-- How far the event totals get with each command.
use Rattle.std.proofs.Common.{◌≡◌, ℕ, ◌+◌, ◌≤◌, Bool, true, false, cond, Option, Some, None, refl, sym, subst, ◌∙◌, arith}
use Rattle.std.specs.Prelude.{option_map, unwrap_or}
use Rattle.std.specs.Ordering.{eq_by_cmp}
use Rattle.std.specs.FinMap.{get, insert, remove, get-insert, get-remove}
use Rattle.flat_model.specs.Path.{Path, path_cmp, same_path}
use Rattle.flat_model.specs.State.{State, Attr, Limit, fresh, start}
use Rattle.flat_model.specs.File.{LimitFile, PidsMax, MaxDescendants, MaxDepth}
use Rattle.flat_model.specs.Command.{Command, MakeGroup, RemoveGroup, Fork, Exit, Move, SetLimit, Kill, Show, Locate, Undo, Refusal, Exists}
use Rattle.flat_model.specs.Command.{NoGroup, Descendants, Depth, NoSlot, RootFixed, HasChildren, HasProcesses, NoProcess, PidInUse}
use Rattle.flat_model.specs.Command.{OverPidsMax, NoFile, NotReadable}
use Rattle.flat_model.specs.EventTotals.{HasEventsUpTo}
use Rattle.flat_model.specs.Step.{after, after_refusal, home_of, with_limit, at_each, count_up, counts_for, raise_peak, raise_peaks}
use Rattle.flat_model.proofs.PathLaws.{path_cmp-IsTotalOrder, path_cmp-IsAntisymmetric}
use Rattle.flat_model.proofs.Maps.{get-each}
use Rattle.flat_model.proofs.Reachable.{only_root}

abbrev pub IsUpTo : ℕ → Attr → Type 0
IsUpTo n a = (a.local ≤ n) × (a.total ≤ n)

-- the start has none
pub start_up : (s : State) → s ≡ start → HasEventsUpTo 0 s
start_up s e = subst (HasEventsUpTo 0) (sym e) (λ p attr h. subst (IsUpTo 0) (only_root p attr h).1 (omega arith, omega arith))

pub up_more : (n m : ℕ) (s : State) → n ≤ m → HasEventsUpTo n s → HasEventsUpTo m s
up_more n m s l h p attr there = let up = h p attr there in (omega (arith, l, up.0), omega (arith, l, up.1))

pub up_one_more : (n : ℕ) (s : State) → HasEventsUpTo n s → HasEventsUpTo (n + 1) s
up_one_more n s h = up_more n (n + 1) s (omega arith) h

up_limit : (n : ℕ) (file : LimitFile) (value : Limit) (a : Attr) → IsUpTo n a → IsUpTo n (with_limit file value a)
up_limit n PidsMax value a h = h
up_limit n MaxDescendants value a h = h
up_limit n MaxDepth value a h = h

up_own : (n : ℕ) (o : Option Attr) → ((a : Attr) → o ≡ Some a → IsUpTo n a) → IsUpTo n (unwrap_or o fresh)
up_own n None h = (omega arith, omega arith)
up_own n (Some a) h = h a refl

pub up_put : (n : ℕ) (s : State) (p : Path) (a : Attr) → HasEventsUpTo n s → IsUpTo n a → HasEventsUpTo n (record s { groups = insert s.groups p a })
up_put n s p a h up q attr there =
    elim (eq_by_cmp path_cmp q p) as (λ b. cond b (Some a) (get s.groups q) ≡ Some attr → IsUpTo n attr) [
      | true ↦ λ e. subst (IsUpTo n) (let same : a ≡ attr = cc in same) up
      | false ↦ λ e. h q attr e
    ] (sym (get-insert path_cmp-IsTotalOrder s.groups p a q) ∙ there)

up_removed : (n : ℕ) (s : State) (p : Path) → HasEventsUpTo n s → HasEventsUpTo n (record s { groups = remove s.groups p })
up_removed n s p h q attr there =
    elim (eq_by_cmp path_cmp q p) as (λ b. cond b None (get s.groups q) ≡ Some attr → IsUpTo n attr) [
      | true ↦ λ e. cc
      | false ↦ λ e. h q attr e
    ] (sym (get-remove path_cmp-IsTotalOrder s.groups p q) ∙ there)

-- each group changed, from totals up to n to totals up to m
pub up_each : (n m : ℕ) (s : State) (f : Path → Attr → Attr) → ((q : Path) (x : Attr) → IsUpTo n x → IsUpTo m (f q x)) → HasEventsUpTo n s → HasEventsUpTo m (at_each f s)
up_each n m s f keeps h q attr there = by (get s.groups q) (h q) (sym (get-each path_cmp-IsTotalOrder path_cmp-IsAntisymmetric f s.groups q) ∙ there)
  where
    by : (o : Option Attr) → ((x : Attr) → o ≡ Some x → IsUpTo n x) → option_map (f q) o ≡ Some attr → IsUpTo m attr
    by None up e = cc
    by (Some x) up e = subst (IsUpTo m) (let same : f q x ≡ attr = cc in same) (keeps q x (up x refl))

-- a process that comes raises a peak, and nothing else of a group
pub up_come : (n : ℕ) (s : State) (pid : ℕ) (a : Path) → HasEventsUpTo n s → HasEventsUpTo n (raise_peaks a (record s { home = insert s.home pid a }))
up_come n s pid a h = up_each n n (record s { home = insert s.home pid a }) (raise_peak (record s { home = insert s.home pid a }) a) (λ q x up. up) h

-- an accepted command raises none
pub up_after : (n : ℕ) (s : State) (c : Command) → HasEventsUpTo n s → HasEventsUpTo n (after s c)
up_after n s (MakeGroup p) h = up_put n s p fresh h (omega arith, omega arith)
up_after n s (RemoveGroup p) h = up_removed n s p h
up_after n s (Fork from child) h = up_come n s child (home_of s from) h
up_after n s (Exit pid) h = h
up_after n s (Move p pid) h = up_come n s pid p h
up_after n s (SetLimit p file value) h = up_put n s p _ h (up_limit n file value _ (up_own n (get s.groups p) (h p)))
up_after n s (Kill g) h = h
up_after n s (Show p file) h = h
up_after n s (Locate pid) h = h
up_after n s Undo h = h

at_most_one_more : (n k : ℕ) (b : Bool) → k ≤ n → k + cond b 1 0 ≤ n + 1
at_most_one_more n k true h = omega arith
at_most_one_more n k false h = omega arith

-- a refusal raises each by one at the most
pub up_refused : (n : ℕ) (s : State) (r : Refusal) → HasEventsUpTo n s → HasEventsUpTo (n + 1) (after_refusal s r)
up_refused n s (OverPidsMax a) h = up_each n (n + 1) s (count_up a)
    (λ q x up. (at_most_one_more n x.local (same_path q a) up.0, at_most_one_more n x.total (counts_for a q) up.1)) h
up_refused n s Exists h = up_one_more n s h
up_refused n s (NoGroup p) h = up_one_more n s h
up_refused n s (Descendants p) h = up_one_more n s h
up_refused n s (Depth p) h = up_one_more n s h
up_refused n s NoSlot h = up_one_more n s h
up_refused n s RootFixed h = up_one_more n s h
up_refused n s HasChildren h = up_one_more n s h
up_refused n s HasProcesses h = up_one_more n s h
up_refused n s (NoProcess p) h = up_one_more n s h
up_refused n s (PidInUse p) h = up_one_more n s h
up_refused n s NoFile h = up_one_more n s h
up_refused n s NotReadable h = up_one_more n s h
