-- A reply that no change brings leaves the machine; one that an accepted change brings is known before; and a counted
-- refusal is taken back without memory.
use Rattle.std.specs.Prelude.{◌≡◌, refl, Bool, true, false, cond, List, [], ◌∷◌, Option, None, Some}
use Rattle.std.proofs.Common.{sym, ap, subst, ◌∙◌}
use Rattle.std.proofs.lemmas.Bool.{false≢true, true≢false}
use Rattle.flat_model.specs.State.{State}
use Rattle.flat_model.specs.Command.{Command, MakeGroup, RemoveGroup, Fork, Exit, Move, SetLimit, Kill, Show, Locate, Undo, Refusal, Exists}
use Rattle.flat_model.specs.Command.{NoGroup, Descendants, Depth, NoSlot, RootFixed, HasChildren, HasProcesses, NoProcess, PidInUse}
use Rattle.flat_model.specs.Command.{OverPidsMax, NoFile, NotReadable, Done, is_undo, changes, is_counted}
use Rattle.flat_model.specs.Inverse.{inverse_of_refusal}
use Rattle.flat_model.specs.Step.{refusal, after, after_refusal}
use Rattle.flat_model.specs.Machine.{Machine, tick, undone, outcome, accepted, recorded}
use Rattle.undo_journal.specs.Answer.{needs_no_memory, undoes_without_memory, record_by}
use Rattle.undo_journal.specs.Slots.{slots}
use Rattle.line_engine.specs.Ready.{is_loud, is_counted_reply, ready_reply}

-- ---- neither loud nor counted

undone_quiet : (s : State) (past : List (Command × State)) → is_loud (undone s past).1 ≡ false → (undone s past).0 ≡ record { state = s; past = past }
undone_quiet s [] q = refl
undone_quiet s (e ∷ past) q = absurd (true≢false q)

refused_quiet : (b : Bool) (m n : Machine) → b ≡ false → cond b n m ≡ m
refused_quiet true m n e = absurd (true≢false e)
refused_quiet false m n e = refl

accepted_quiet : (m : Machine) (c : Command) → is_loud (accepted m.state c) ≡ false → cond (changes c) (recorded m c (after m.state c)) m ≡ m
accepted_quiet m (MakeGroup p) q = absurd (true≢false q)
accepted_quiet m (RemoveGroup p) q = absurd (true≢false q)
accepted_quiet m (Fork from child) q = absurd (true≢false q)
accepted_quiet m (Exit pid) q = absurd (true≢false q)
accepted_quiet m (Move p pid) q = absurd (true≢false q)
accepted_quiet m (SetLimit p file value) q = absurd (true≢false q)
accepted_quiet m (Kill g) q = absurd (true≢false q)
accepted_quiet m (Show p file) q = refl
accepted_quiet m (Locate pid) q = refl
accepted_quiet m Undo q = absurd (true≢false q)

outcome_quiet : (m : Machine) (c : Command) (o : Option Refusal) → is_loud (outcome m c o).1 ≡ false → is_counted_reply (outcome m c o).1 ≡ false → (outcome m c o).0 ≡ m
outcome_quiet m c None q u = accepted_quiet m c q
outcome_quiet m c (Some r) q u = refused_quiet (is_counted r) m (recorded m c (after_refusal m.state r)) u

tick_quiet : (b : Bool) (m : Machine) (c : Command) (o : Option Refusal) → is_loud (cond b (undone m.state m.past) (outcome m c o)).1 ≡ false
    → is_counted_reply (cond b (undone m.state m.past) (outcome m c o)).1 ≡ false → (cond b (undone m.state m.past) (outcome m c o)).0 ≡ m
tick_quiet true m c o q u = undone_quiet m.state m.past q
tick_quiet false m c o q u = outcome_quiet m c o q u

pub quiet : (m : Machine) (c : Command) → is_loud (tick slots m c).1 ≡ false → is_counted_reply (tick slots m c).1 ≡ false → (tick slots m c).0 ≡ m
quiet m c q u = tick_quiet (is_undo c) m c (refusal slots m.state c) q u

-- ---- loud

accepted_loud : (s : State) (c : Command) → is_loud (accepted s c) ≡ true → accepted s c ≡ Done
accepted_loud s (MakeGroup p) q = refl
accepted_loud s (RemoveGroup p) q = refl
accepted_loud s (Fork from child) q = refl
accepted_loud s (Exit pid) q = refl
accepted_loud s (Move p pid) q = refl
accepted_loud s (SetLimit p file value) q = refl
accepted_loud s (Kill g) q = refl
accepted_loud s (Show p file) q = absurd (false≢true q)
accepted_loud s (Locate pid) q = absurd (false≢true q)
accepted_loud s Undo q = refl

outcome_loud : (m : Machine) (c : Command) (o : Option Refusal) → is_loud (outcome m c o).1 ≡ true → (outcome m c o).1 ≡ Done
outcome_loud m c None q = accepted_loud m.state c q
outcome_loud m c (Some r) q = absurd (false≢true q)

tick_loud : (b : Bool) (m : Machine) (c : Command) (o : Option Refusal) → is_loud (cond b (undone m.state m.past) (outcome m c o)).1 ≡ true
    → cond b (undone m.state m.past).1 Done ≡ (cond b (undone m.state m.past) (outcome m c o)).1
tick_loud true m c o q = refl
tick_loud false m c o q = sym (outcome_loud m c o q)

pub loud : (m : Machine) (c : Command) → is_loud (tick slots m c).1 ≡ true → ready_reply m c ≡ (tick slots m c).1
loud m c q = tick_loud (is_undo c) m c (refusal slots m.state c) q

-- ---- counted

-- the machine is the one before with one record more, which asks for no memory to be taken back
pub record Counted (m : Machine) (next : Machine) : Type 0 where
  pub back : (tick slots next Undo).0 ≡ m
  pub certain : undoes_without_memory slots next.past ≡ true

undone_uncounted : (s : State) (past : List (Command × State)) → is_counted_reply (undone s past).1 ≡ false
undone_uncounted s [] = refl
undone_uncounted s (e ∷ past) = refl

accepted_uncounted : (s : State) (c : Command) → is_counted_reply (accepted s c) ≡ false
accepted_uncounted s (MakeGroup p) = refl
accepted_uncounted s (RemoveGroup p) = refl
accepted_uncounted s (Fork from child) = refl
accepted_uncounted s (Exit pid) = refl
accepted_uncounted s (Move p pid) = refl
accepted_uncounted s (SetLimit p file value) = refl
accepted_uncounted s (Kill g) = refl
accepted_uncounted s (Show p file) = refl
accepted_uncounted s (Locate pid) = refl
accepted_uncounted s Undo = refl

needs_none : (r : Refusal) → is_counted r ≡ true → needs_no_memory (inverse_of_refusal r) ≡ true
needs_none (OverPidsMax a) q = refl
needs_none Exists q = absurd (false≢true q)
needs_none (NoGroup p) q = absurd (false≢true q)
needs_none (Descendants p) q = absurd (false≢true q)
needs_none (Depth p) q = absurd (false≢true q)
needs_none NoSlot q = absurd (false≢true q)
needs_none RootFixed q = absurd (false≢true q)
needs_none HasChildren q = absurd (false≢true q)
needs_none HasProcesses q = absurd (false≢true q)
needs_none (NoProcess pid) q = absurd (false≢true q)
needs_none (PidInUse pid) q = absurd (false≢true q)
needs_none NoFile q = absurd (false≢true q)
needs_none NotReadable q = absurd (false≢true q)

outcome_counted : (m : Machine) (c : Command) (o : Option Refusal) → refusal slots m.state c ≡ o → is_counted_reply (outcome m c o).1 ≡ true → Counted m (outcome m c o).0
outcome_counted m c None is q = absurd (false≢true (sym (accepted_uncounted m.state c) ∙ q))
outcome_counted m c (Some r) is q =
    subst (λ (b : Bool). Counted m (cond b (recorded m c (after_refusal m.state r)) m)) (sym q) (record {
      back = refl;
      certain = ap (λ o. needs_no_memory (record_by m.state c o)) is ∙ needs_none r q;
    })

tick_counted : (b : Bool) (m : Machine) (c : Command)
    → is_counted_reply (cond b (undone m.state m.past) (outcome m c (refusal slots m.state c))).1 ≡ true
    → Counted m (cond b (undone m.state m.past) (outcome m c (refusal slots m.state c))).0
tick_counted true m c q = absurd (false≢true (sym (undone_uncounted m.state m.past) ∙ q))
tick_counted false m c q = outcome_counted m c (refusal slots m.state c) refl q

pub counted : (m : Machine) (c : Command) → is_counted_reply (tick slots m c).1 ≡ true → Counted m (tick slots m c).0
counted m c q = tick_counted (is_undo c) m c q
