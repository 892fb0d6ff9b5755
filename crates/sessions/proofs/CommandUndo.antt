-- A command that is not an undo, whose answer can't be copied: it has left the machine, or is taken back without memory.
use Rattle.std.proofs.Common.{◌≡◌, ◌≢◌, ◌∙◌, ℕ, ◌<◌, ◌≤◌, Bool, true, false, cond, Option, Some, None, length, refl, sym, ap, subst, arith}
use Rattle.std.proofs.lemmas.Option.{none-some}
use Rattle.flat_model.specs.State.{State}
use Rattle.flat_model.specs.Command.{Command, MakeGroup, RemoveGroup, Fork, Exit, Move, SetLimit, Kill, Show, Locate, Undo, Refusal, Exists}
use Rattle.flat_model.specs.Command.{NoGroup, Descendants, Depth, NoSlot, RootFixed, HasChildren, HasProcesses, NoProcess, PidInUse}
use Rattle.flat_model.specs.Command.{OverPidsMax, NoFile, NotReadable, Reply, Done, is_undo, changes, is_counted}
use Rattle.flat_model.specs.Step.{refusal, after, after_refusal}
use Rattle.flat_model.specs.Machine.{Machine, tick, outcome, recorded}
use Rattle.undo_journal.specs.Answer.{record_by, needs_no_memory, undoes_without_memory}
use Rattle.undo_journal.specs.Timeline.{Timeline, becomes}

-- ---- no record more: the machine is as it was

recorded_not : (m : Machine) (c : Command) (s : State) (b : Bool) → length (cond b (recorded m c s) m).past ≤ length m.past → cond b (recorded m c s) m ≡ m
recorded_not m c s true le = absurd (omega (arith, le))
recorded_not m c s false le = refl

outcome_same : (m : Machine) (c : Command) (r : Option Refusal) → length (outcome m c r).0.past ≤ length m.past → (outcome m c r).0 ≡ m
outcome_same m c None le = recorded_not m c (after m.state c) (changes c) le
outcome_same m c (Some r) le = recorded_not m c (after_refusal m.state r) (is_counted r) le

tick_is : (slots : ℕ) (m : Machine) (c : Command) → is_undo c ≡ false → tick slots m c ≡ outcome m c (refusal slots m.state c)
tick_is slots m c no_undo = rw no_undo refl

pub same : (slots : ℕ) (m : Machine) (c : Command) → is_undo c ≡ false → length (tick slots m c).0.past ≤ length m.past → (tick slots m c).0 ≡ m
same slots m c no_undo le =
    let t = tick_is slots m c no_undo in
    let P : Machine × Reply → Type 0 = λ o. length o.0.past ≤ length m.past → o.0 ≡ m in
    subst P (sym t) (outcome_same m c (refusal slots m.state c)) le

-- ---- a record more, and another answer than done: a counted fork

counted : (slots : ℕ) (m : Machine) (c : Command) (r : Option Refusal) → refusal slots m.state c ≡ r → (outcome m c r).1 ≢ Done → length m.past < length (outcome m c r).0.past
    → undoes_without_memory slots (outcome m c r).0.past ≡ true
counted slots m (MakeGroup p) None is other more = absurd (other refl)
counted slots m (RemoveGroup p) None is other more = absurd (other refl)
counted slots m (Fork from child) None is other more = absurd (other refl)
counted slots m (Exit pid) None is other more = absurd (other refl)
counted slots m (Move p pid) None is other more = absurd (other refl)
counted slots m (SetLimit p file value) None is other more = absurd (other refl)
counted slots m (Kill g) None is other more = absurd (other refl)
counted slots m (Show p file) None is other more = absurd (omega (arith, more))
counted slots m (Locate pid) None is other more = absurd (omega (arith, more))
counted slots m Undo None is other more = absurd (other refl)
counted slots m c (Some (OverPidsMax a)) is other more =
    let P : Option Refusal → Type 0 = λ r. needs_no_memory (record_by m.state c r) ≡ true in
    subst P (sym is) refl
counted slots m c (Some Exists) is other more = absurd (omega (arith, more))
counted slots m c (Some (NoGroup p)) is other more = absurd (omega (arith, more))
counted slots m c (Some (Descendants p)) is other more = absurd (omega (arith, more))
counted slots m c (Some (Depth p)) is other more = absurd (omega (arith, more))
counted slots m c (Some NoSlot) is other more = absurd (omega (arith, more))
counted slots m c (Some RootFixed) is other more = absurd (omega (arith, more))
counted slots m c (Some HasChildren) is other more = absurd (omega (arith, more))
counted slots m c (Some HasProcesses) is other more = absurd (omega (arith, more))
counted slots m c (Some (NoProcess pid)) is other more = absurd (omega (arith, more))
counted slots m c (Some (PidInUse pid)) is other more = absurd (omega (arith, more))
counted slots m c (Some NoFile) is other more = absurd (omega (arith, more))
counted slots m c (Some NotReadable) is other more = absurd (omega (arith, more))

pub certain : (slots : ℕ) (m : Machine) (c : Command) → is_undo c ≡ false → (tick slots m c).1 ≢ Done → length m.past < length (tick slots m c).0.past
    → undoes_without_memory slots (tick slots m c).0.past ≡ true
certain slots m c no_undo =
    let t = tick_is slots m c no_undo in
    let P : Machine × Reply → Type 0 = λ o. o.1 ≢ Done → length m.past < length o.0.past → undoes_without_memory slots o.0.past ≡ true in
    subst P (sym t) (counted slots m c (refusal slots m.state c) refl)

-- ---- both, of an answer that may be out of memory

pub left : (slots : ℕ) (old new : Timeline) (c : Command) (answer : Option Reply) → is_undo c ≡ false
    → (answer ≡ None → new ≡ old) → (answer ≢ None → new ≡ becomes old (tick slots old.machine c).0) → length new.machine.past ≤ length old.machine.past → new ≡ old
left slots old new c None no_undo refused goes le = refused refl
left slots old new c (Some r) no_undo refused goes le =
    let g : new ≡ becomes old (tick slots old.machine c).0 = goes (λ e. none-some r (sym e)) in
    let P : Timeline → Type 0 = λ x. length x.machine.past ≤ length old.machine.past in
    g ∙ ap (becomes old) (same slots old.machine c no_undo (subst P g le))

pub answered : (old new : Timeline) (answer : Option Reply) → (answer ≡ None → new ≡ old) → length old.machine.past < length new.machine.past → answer ≢ None
answered old new answer refused more none =
    let e : length new.machine.past ≡ length old.machine.past = ap (λ (t : Timeline). length t.machine.past) (refused none) in
    omega (arith, e, more)

pub certain_at : (slots : ℕ) (old new : Timeline) (c : Command) (answer : Option Reply) → is_undo c ≡ false
    → new ≡ becomes old (tick slots old.machine c).0 → answer ≡ Some (tick slots old.machine c).1 → answer ≢ Some Done → length old.machine.past < length new.machine.past
    → undoes_without_memory slots new.machine.past ≡ true
certain_at slots old new c answer no_undo goes is other more =
    let P : Timeline → Type 0 = λ x. length old.machine.past < length x.machine.past in
    let Q : Timeline → Type 0 = λ x. undoes_without_memory slots x.machine.past ≡ true in
    subst Q (sym goes) (certain slots old.machine c no_undo (λ done. other (is ∙ ap (λ (r : Reply). Some r) done)) (subst P goes more))
