-- What a reached machine keeps after one command, and what an undo leaves.
use Rattle.std.proofs.Common.{◌≡◌, ℕ, ◌<◌, true, false, cond, List, [], ◌∷◌, length, Option, Some, None, refl, sym, ap, subst, ◌∙◌, arith}
use Rattle.flat_model.specs.State.{State}
use Rattle.flat_model.specs.Command as model
use Rattle.flat_model.specs.Step.{refusal, after, after_refusal}
use Rattle.flat_model.specs.Machine.{Machine, recorded, outcome, undone, tick}
use Rattle.flat_model.proofs.UndoLaws.{run_undone}
use Rattle.flat_model.proofs.GroupCounts.{current_is, populated_is}
use Rattle.std.proofs.Common.{◌≢◌, Result, Ok, Err}
use Rattle.std.specs.Prelude.{IfOk, OnErr, IsOk}
use Rattle.undo_journal.specs.declared.reply.Reply.{Reply}
use Rattle.undo_journal.specs.CommandMeaning.{reply_of}
use Rattle.undo_journal.specs.Answer.{Answers}
use Rattle.undo_journal.specs.Beginning.{beginning}
use Rattle.undo_journal.specs.Headline.{IsReached, KeepsHistory}
use Rattle.undo_journal.specs.Timeline.{Timeline, becomes}
use Rattle.undo_journal.proofs.Beginnings.{tick_begins}

module _ (slots : ℕ) where
  -- ---- one command and its undo

  outcome_undone : (m : Machine) (c : model.Command) (o : Option model.Refusal) → length m.past < length (outcome m c o).0.past → tick slots (outcome m c o).0 model.Undo ≡ (m, model.Undone c)
  outcome_undone m c None l =
      elim (model.changes c) as (λ b. length m.past < length (cond b (recorded m c (after m.state c)) m).past
      → tick slots (cond b (recorded m c (after m.state c)) m) model.Undo ≡ (m, model.Undone c)) [
        | true ↦ λ h. refl
        | false ↦ λ h. absurd (omega arith)
      ] l
  outcome_undone m c (Some r) l =
      elim (model.is_counted r) as (λ b. length m.past < length (cond b (recorded m c (after_refusal m.state r)) m).past
      → tick slots (cond b (recorded m c (after_refusal m.state r)) m) model.Undo ≡ (m, model.Undone c)) [
        | true ↦ λ h. refl
        | false ↦ λ h. absurd (omega arith)
      ] l

  -- an undo leaves no record
  undo_shorter : (s : State) (past : List (model.Command × State)) → length past < length (undone s past).0.past → ⊥
  undo_shorter s [] h = omega arith
  undo_shorter s (e ∷ past) h = omega arith

  tick_undone : (m : Machine) (c : model.Command) → length m.past < length (tick slots m c).0.past → tick slots (tick slots m c).0 model.Undo ≡ (m, model.Undone c)
  tick_undone m c l =
      elim (model.is_undo c) as (λ b. length m.past < length (cond b (undone m.state m.past) (outcome m c (refusal slots m.state c))).0.past
      → tick slots (cond b (undone m.state m.past) (outcome m c (refusal slots m.state c))).0 model.Undo ≡ (m, model.Undone c)) [
        | true ↦ λ h. absurd (undo_shorter m.state m.past h)
        | false ↦ λ h. outcome_undone m c (refusal slots m.state c) h
      ] l

  -- ---- the headline

  pub keeps_history : (old : Timeline) (c : model.Command) (new : Timeline) → new ≡ becomes old (tick slots old.machine c).0 → IsReached slots new → KeepsHistory slots old c new
  keeps_history old c new is h =
      let machine_is : new.machine ≡ (tick slots old.machine c).0 = ap (λ (t : Timeline). t.machine) is in
      let begins : beginning new.machine ≡ beginning old.machine = ap beginning machine_is ∙ tick_begins slots old.machine c in
      let forgotten : new.forgotten ≡ old.forgotten = ap (λ (t : Timeline). t.forgotten) is in
      record {
        command_undone = subst (λ (m : Machine). length old.machine.past < length m.past → tick slots m model.Undo ≡ (old.machine, model.Undone c)) (sym machine_is) (tick_undone old.machine c);
        run_undone = run_undone slots new.machine;
        begins = begins;
        forgotten = forgotten;
        all_undone = h.all_undone ∙ begins;
        from_the_start = λ z. h.from_the_start (forgotten ∙ z);
        counts = current_is slots new.machine.state h.well_formed.0;
        populations = populated_is new.machine.state;
        peaks = h.well_formed.0.peaks;
      }

  -- ---- an answer, or out of memory

  pub answered_by : {A E : Type 0} (old new : Timeline) (c : model.Command) (r : Result (Reply A) E) (reply : Reply A)
      → IfOk r (λ x. reply ≡ x) → OnErr r (reply_of reply ≡ None) → IfOk r (λ x. Answers slots old c x new) → reply_of reply ≢ None
      → Answers slots old c reply new
  answered_by old new c (Ok x) reply is err h n = subst (λ y. Answers slots old c y new) (sym is) h
  answered_by old new c (Err e) reply is err h n = absurd (n err)

  pub certain_by : {A E : Type 0} (old new : Timeline) (c : model.Command) (r : Result (Reply A) E) (reply : Reply A)
      → IfOk r (λ x. reply ≡ x) → IfOk r (λ x. Answers slots old c x new) → IsOk r → reply_of reply ≢ None
  certain_by old new c (Ok x) reply is h k n = let f : Some (tick slots old.machine c).1 ≡ None = sym h.reply_is ∙ sym (ap reply_of is) ∙ n in cc
  certain_by old new c (Err e) reply is h k n = cc
