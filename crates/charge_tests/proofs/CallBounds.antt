-- How far the event totals get with each call.
use Rattle.std.proofs.Common.{◌≡◌, ℕ, ◌+◌, ◌-◌, ◌<◌, ◌≤◌, Bool, true, false, cond, List, [], ◌∷◌, Option, Some, None, Result, Ok, Err, length, is_some, sym, ap, subst, ◌∙◌, arith}
use Rattle.std.specs.Prelude.{unwrap_or, IfOk, OnOk, OnErr}
use Rattle.std.specs.FinMap.{get}
use Rattle.flat_model.specs.Path.{Path, same_path}
use Rattle.flat_model.specs.State.{State, Attr}
use Rattle.flat_model.specs.Command.{Command, Refusal, Fork, OverPidsMax}
use Rattle.flat_model.specs.EventTotals.{HasEventsUpTo}
use Rattle.flat_model.specs.Inverse.{back, Counted, Removed}
use Rattle.flat_model.specs.Step.{after, count_down, counts_for, set_peak, set_peaks}
use Rattle.flat_model.proofs.PathLaws.{at_or_below_take, at_or_below_length}
pub use Rattle.flat_model.proofs.EventBounds.{up_more}
use Rattle.flat_model.proofs.EventBounds.{up_put, up_each, up_after, up_one_more, up_refused}
use Rattle.pids_charge.specs.Events.{HasEvents}
use Rattle.pids_charge.specs.Answers.{Does, ForksTo, refusal_of_fault, after_fault}
use Rattle.pids_charge.specs.declared.fork.ForkOutcome.{ForkOutcome}
use Rattle.pids_charge.specs.declared.fork.ForkOutcome.TheVariants as fork
use Rattle.pids_charge.specs.declared.fault.ChargeFault.{ChargeFault}

up_fault : (n : ℕ) (s : State) (o : Option Refusal) → HasEventsUpTo n s → HasEventsUpTo (n + 1) (after_fault s o)
up_fault n s None h = up_one_more n s h
up_fault n s (Some r) h = up_refused n s r h

-- peaks that are set
pub up_set : (n : ℕ) (s new : State) (a : Path) (peaks : List ℕ) → HasEventsUpTo n s → new ≡ set_peaks a peaks s → HasEventsUpTo (n + 1) new
up_set n s new a peaks h e = subst (HasEventsUpTo (n + 1)) (sym e) (up_one_more n (set_peaks a peaks s) (up_each n n s (set_peak a peaks) (λ q x up. up) h))

-- a call that is a command
pub up_does : {X : Type 0} (slots n : ℕ) (s : State) (c : Command) (p : Path) (r : Result X ChargeFault) (new : State) → HasEventsUpTo n s → Does slots s c p r new → HasEventsUpTo (n + 1) new
up_does slots n s c p (Ok x) new h does = subst (HasEventsUpTo (n + 1)) (sym does.1) (up_one_more n (after s c) (up_after n s c h))
up_does slots n s c p (Err f) new h does = subst (HasEventsUpTo (n + 1)) (sym does.1) (up_fault n s (refusal_of_fault p f) h)

-- a fork that is counted where a limit refuses it
pub up_forked : {A : Type 0} (slots n : ℕ) (s : State) (from child : ℕ) {E : Type 0} (r : Result (ForkOutcome A) E) (new : State) → HasEventsUpTo n s
    → IfOk r (λ o. ForksTo slots s from child o new) → OnErr r (new ≡ s) → HasEventsUpTo (n + 1) new
up_forked slots n s from child (Ok (fork.Made peaks)) new h ok err =
    subst (HasEventsUpTo (n + 1)) (sym ok.1) (up_one_more n (after s (Fork from child)) (up_after n s (Fork from child) h))
up_forked slots n s from child (Ok (fork.Counted path shared)) new h ok err = subst (HasEventsUpTo (n + 1)) (sym ok.1) (up_refused n s (OverPidsMax path) h)
up_forked slots n s from child (Ok (fork.Refused r)) new h ok err = subst (HasEventsUpTo (n + 1)) (sym ok.1) (up_one_more n s h)
up_forked slots n s from child (Err f) new h ok err = subst (HasEventsUpTo (n + 1)) (sym err) (up_one_more n s h)

one_down : (n k : ℕ) (b : Bool) → k ≤ n → k - cond b 1 0 ≤ n
one_down n k true h = omega arith
one_down n k false h = omega arith

-- the count of a refused fork taken back
pub up_uncounted : (n : ℕ) (s new : State) (a : Path) → HasEventsUpTo n s → new ≡ back (Counted a) s → HasEventsUpTo (n + 1) new
up_uncounted n s new a h e =
    subst (HasEventsUpTo (n + 1)) (sym e)
    (up_one_more n (back (Counted a) s)
    (up_each n n s (count_down a) (λ q x up. (one_down n x.local (same_path q a) up.0, one_down n x.total (counts_for a q) up.1)) h))

-- a group put back whose totals are at most the total of another
pub up_restored : {X E : Type 0} (n : ℕ) (s new : State) (p q : Path) (a b : Attr) (r : Result X E) → HasEventsUpTo n s
    → get s.groups q ≡ Some b → a.local ≤ b.total → a.total ≤ b.total → OnOk r (new ≡ back (Removed p a) s) → OnErr r (new ≡ s)
    → HasEventsUpTo (n + 1) new
up_restored n s new p q a b (Ok x) h there local total ok err =
    let up = h q b there in
    subst (HasEventsUpTo (n + 1)) (sym ok) (up_one_more n (back (Removed p a) s) (up_put n s p a h (omega (arith, up.1, local), omega (arith, up.1, total))))
up_restored n s new p q a b (Err x) h there local total ok err = subst (HasEventsUpTo (n + 1)) (sym err) (up_one_more n s h)

-- the conditions of `uncount` at a group below the root, from its own totals
some_is : (o : Option Attr) (a : Attr) → o ≡ Some a → (attr : Attr) → o ≡ Some attr → a ≡ attr
some_is o a e attr there = ap (λ (x : Option Attr). unwrap_or x attr) (sym e ∙ there)

only_one : (a q : Path) → length a ≡ 1 → counts_for a q ≡ true → q ≡ a
only_one [] q l e = absurd (omega (arith, l))
only_one (n ∷ m ∷ a) q l e = absurd (omega (arith, l))
only_one (n ∷ []) [] l e = cc
only_one (n ∷ []) (m ∷ []) l e = at_or_below_take (n ∷ []) (m ∷ []) e
only_one (n ∷ []) (m ∷ k ∷ q) l e = let t = at_or_below_length (n ∷ []) (m ∷ k ∷ q) e in absurd (omega (arith, t))

pub has_events : (s : State) (p : Path) (a : Attr) → length p ≡ 1 → get s.groups p ≡ Some a → 0 < a.local → 0 < a.total → HasEvents s p
has_events s p a one is local total = record {
  there = ap is_some is;
  local = λ attr there. subst (λ (x : Attr). 0 < x.local) (some_is (get s.groups p) a is attr there) local;
  total = λ q attr there counts. subst (λ (x : Attr). 0 < x.total) (some_is (get s.groups p) a is attr (ap (get s.groups) (sym (only_one p q one counts)) ∙ there)) total;
}

-- a call that was made after it was decided
pub up_halves : {X E : Type 0} (n : ℕ) (s new : State) (c : Command) (r : Result X E) → HasEventsUpTo n s → OnOk r (new ≡ after s c) → OnErr r (new ≡ s) → HasEventsUpTo (n + 1) new
up_halves n s new c (Ok x) h ok err = subst (HasEventsUpTo (n + 1)) (sym ok) (up_one_more n (after s c) (up_after n s c h))
up_halves n s new c (Err x) h ok err = subst (HasEventsUpTo (n + 1)) (sym err) (up_one_more n s h)

pub up_taken : (n : ℕ) (s decided new : State) (c : Command) → HasEventsUpTo n s → decided ≡ s → new ≡ after decided c → HasEventsUpTo (n + 1) new
up_taken n s decided new c h kept made =
    subst (HasEventsUpTo (n + 1)) (sym made) (up_one_more n (after decided c) (up_after n decided c (subst (HasEventsUpTo n) (sym kept) h)))
