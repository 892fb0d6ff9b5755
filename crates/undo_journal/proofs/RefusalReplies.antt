-- What a refusal of the charges is to the machine.
use Rattle.std.proofs.Common.{◌≡◌, ℕ, Bool, true, false, cond, not, Option, Some, None, refl, sym, ap, ◌∙◌}
use Rattle.std.proofs.lemmas.Bool.{false≢true}
use Rattle.std.specs.Prelude.{option_map}
use Rattle.flat_model.specs.Path.{Path}
use Rattle.flat_model.specs.State.{State}
use Rattle.flat_model.specs.Counts.{has_process, blocked_fork}
use Rattle.flat_model.specs.Command as model
use Rattle.flat_model.specs.Refuse.{refuse}
use Rattle.flat_model.specs.Step.{refusal, home_of}
use Rattle.flat_model.specs.Machine.{recorded, outcome, undone, tick}
use Rattle.flat_model.proofs.Limits.{fork_refused}
use Rattle.undo_journal.specs.declared.reply.Refusal.{Refusal}
use Rattle.undo_journal.specs.declared.reply.Reply.{Reply}
use Rattle.undo_journal.specs.declared.reply.Reply.TheVariants.{Refused}
use Rattle.undo_journal.specs.CommandMeaning.{refusal_of, reply_of}
use Rattle.undo_journal.specs.Answer.{Answers, state_by}
use Rattle.undo_journal.specs.Timeline.{Timeline, becomes}

abbrev pub is_fork : model.Command → Bool
is_fork (model.Fork from child) = true
is_fork (model.MakeGroup p) = false
is_fork (model.RemoveGroup p) = false
is_fork (model.Exit pid) = false
is_fork (model.Move p pid) = false
is_fork (model.SetLimit p file value) = false
is_fork (model.Kill g) = false
is_fork (model.Show p file) = false
is_fork (model.Locate pid) = false
is_fork model.Undo = false

module _ (slots : ℕ) where
  -- only a fork is counted where it is refused
  uncounted : (s : State) (c : model.Command) (r : model.Refusal) → refusal slots s c ≡ Some r → is_fork c ≡ false → model.is_counted r ≡ false
  uncounted s c (model.OverPidsMax a) e n = let f : true ≡ false = sym (ap is_fork (fork_refused slots s c a e).2) ∙ n in cc
  uncounted s c model.Exists e n = refl
  uncounted s c (model.NoGroup q) e n = refl
  uncounted s c (model.Descendants q) e n = refl
  uncounted s c (model.Depth q) e n = refl
  uncounted s c model.NoSlot e n = refl
  uncounted s c model.RootFixed e n = refl
  uncounted s c model.HasChildren e n = refl
  uncounted s c model.HasProcesses e n = refl
  uncounted s c (model.NoProcess pid) e n = refl
  uncounted s c (model.PidInUse pid) e n = refl
  uncounted s c model.NoFile e n = refl
  uncounted s c model.NotReadable e n = refl

  -- the machine stays where a command but an undo is refused, if the refusal isn't counted
  pub refused_uncounted : {A : Type 0} (t : Timeline) (c : model.Command) (r : Refusal A) → model.is_undo c ≡ false → model.is_counted (refusal_of r) ≡ false
      → refusal slots t.machine.state c ≡ Some (refusal_of r) → Answers {A = A} slots t c (Refused r) t
  refused_uncounted t c r u n e =
      let m = t.machine in
      let is : tick slots m c ≡ (m, model.Refused (refusal_of r)) =
      ap (λ b. cond b (undone m.state m.past) (outcome m c (refusal slots m.state c))) u
      ∙ ap (outcome m c) e
      ∙ ap (λ b. (cond b (recorded m c (state_by m.state c (Some (refusal_of r)))) m, model.Refused (refusal_of r))) n in
      record {
        state = ap (becomes t) (sym (ap (λ x. x.0) is));
        reply_is = ap (λ x. Some x.1) (sym is);
      }

  -- in particular where a command but a fork is refused
  pub refused_answers : {A : Type 0} (t : Timeline) (c : model.Command) (r : Refusal A) → model.is_undo c ≡ false → is_fork c ≡ false
      → refusal slots t.machine.state c ≡ Some (refusal_of r) → Answers {A = A} slots t c (Refused r) t
  refused_answers t c r u n e = refused_uncounted t c r u (uncounted t.machine.state c (refusal_of r) e n) e

-- ---- a fork

module _ (slots : ℕ) where
  -- what a limit refuses has a parent
  limit_there : (from : ℕ) (a : Path) (b : Bool) (o : Option model.Refusal) → refuse (not b) (model.NoProcess from) o ≡ Some (model.OverPidsMax a) → b ≡ true
  limit_there from a true o e = refl
  limit_there from a false o e = cc

  pub parent_there : (s : State) (from child : ℕ) (a : Path) → refusal slots s (model.Fork from child) ≡ Some (model.OverPidsMax a) → has_process s from ≡ true
  parent_there s from child a e = limit_there from a (has_process s from) _ e

  -- what the machine answers to a command whose first refusal is known
  pub answers_by : {A : Type 0} (t : Timeline) (c : model.Command) (o : Option model.Refusal) (reply : Reply A) (new : Timeline) → model.is_undo c ≡ false → refusal slots t.machine.state c ≡ o →
      new ≡ becomes t (outcome t.machine c o).0 → reply_of reply ≡ Some (outcome t.machine c o).1 → Answers slots t c reply new
  answers_by t c o reply new u e new_is reply_is =
      let m = t.machine in
      let is : tick slots m c ≡ outcome m c o = ap (λ b. cond b (undone m.state m.past) (outcome m c (refusal slots m.state c))) u ∙ ap (outcome m c) e in
      record {
        state = new_is ∙ ap (becomes t) (sym (ap (λ x. x.0) is));
        reply_is = reply_is ∙ sym (ap (λ x. Some x.1) is);
      }
