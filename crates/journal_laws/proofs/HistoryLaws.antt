-- What a kept history says of a machine's past, and what as many undos as one likes leave.
use Rattle.std.proofs.Common.{◌≡◌, ◌∙◌, ℕ, zero, suc, ◌+◌, ◌≤◌, List, [], ◌∷◌, ◌++◌, drop, length, Some, None, refl, sym, ap, subst, arith}
use Rattle.flat_model.specs.State.{State}
use Rattle.flat_model.specs.Command as model
use Rattle.flat_model.specs.Inverse.{Inverse, back, inverse}
use Rattle.flat_model.specs.Step.{refusal, after}
use Rattle.flat_model.specs.Machine.{Machine, new_machine, tick, end_of, after_all, undos}
use Rattle.flat_model.proofs.Reachable.{reached_well}
use Rattle.flat_model.proofs.InverseLaws.{back_accepted}
use Rattle.undo_journal.specs.Answer.{IsNewest, record_by, record_of, state_after}
use Rattle.undo_journal.specs.Beginning.{first_state, beginning}
use Rattle.undo_journal.specs.Headline.{IsReached, KeepsHistory}
use Rattle.undo_journal.specs.History.{IsHistory}
use Rattle.undo_journal.specs.Timeline.{Timeline, from_start}
use Rattle.undo_journal.proofs.Beginnings.{tick_begins}
use Rattle.undo_journal.proofs.MachineSteps.{keeps_history}
use Rattle.undo_journal.proofs.Histories.{taken_by}
use Rattle.journal_laws.specs.Runs.{KeepsEach}

module _ (slots : ℕ) where
  -- ---- machines that commands reach

  -- a run and one command more
  end-push : (m : Machine) (cs : List model.Command) (c : model.Command) → end_of slots m (cs ++ c ∷ []) ≡ (tick slots (end_of slots m cs) c).0
  end-push m [] c = refl
  end-push m (d ∷ cs) c = end-push (tick slots m d).0 cs c

  all_undone : (s : State) (past : List (model.Command × State)) → end_of slots (record { state = s; past = past }) (undos (length past)) ≡ record { state = first_state s past; past = [] }
  all_undone s [] = refl
  all_undone s (e ∷ past) = all_undone e.1 past

  pub undone_is : (m : Machine) → end_of slots m (undos (length m.past)) ≡ beginning m
  undone_is m = all_undone m.state m.past

  -- where the past begins
  pub run_begins : (m : Machine) (cs : List model.Command) → beginning (end_of slots m cs) ≡ beginning m
  run_begins m [] = refl
  run_begins m (c ∷ cs) = run_begins (tick slots m c).0 cs ∙ tick_begins slots m c

  pub each_begins : (t : Timeline) (steps : List (model.Command × Timeline)) (last : Timeline) → KeepsEach slots t steps last
      → (last.forgotten ≡ t.forgotten) × (beginning last.machine ≡ beginning t.machine)
  each_begins t [] last h = (ap (λ (x : Timeline). x.forgotten) h, ap (λ (x : Timeline). beginning x.machine) h)
  each_begins t (e ∷ steps) last h = let more = each_begins e.1 steps last h.1 in (more.0 ∙ h.0.forgotten, more.1 ∙ h.0.begins)

  pub reached_is : (cs : List model.Command) → IsReached slots (from_start (after_all slots cs))
  reached_is cs = record {
    well_formed = reached_well slots cs;
    all_undone = undone_is (after_all slots cs);
    from_the_start = λ z. undone_is (after_all slots cs) ∙ run_begins new_machine cs;
  }

  pub step_keeps : (cs : List model.Command) (c : model.Command)
      → KeepsHistory slots (from_start (after_all slots cs)) c (from_start (tick slots (after_all slots cs) c).0)
  step_keeps cs c =
      keeps_history slots (from_start (after_all slots cs)) c (from_start (tick slots (after_all slots cs) c).0) refl
      (subst (λ (m : Machine). IsReached slots (from_start m)) (end-push new_machine cs c) (reached_is (cs ++ c ∷ [])))

  -- a reached past begins at the start, if nothing was forgotten
  pub starts : (t : Timeline) → IsReached slots t → t.forgotten ≡ 0 → beginning t.machine ≡ new_machine
  starts t r z = sym (undone_is t.machine) ∙ r.from_the_start z

  -- what a kept history says of it
  pub kept_starts : (old new : Timeline) (c : model.Command) → KeepsHistory slots old c new → old.forgotten ≡ 0 → beginning new.machine ≡ new_machine
  kept_starts old new c k z = sym (undone_is new.machine) ∙ k.from_the_start z

  -- ---- undos, one after another

  -- the oldest state that an undo can give back
  pub oldest_is : (m : Machine) (d : model.Command) (s : State) (past : List (model.Command × State))
      → m.past ≡ past ++ (d, s) ∷ [] → s ≡ (beginning m).state
  oldest_is m d s past is = sym (ap (first_state m.state) is ∙ bottom m.state past)
    where
      bottom : (now : State) (past : List (model.Command × State)) → first_state now (past ++ (d, s) ∷ []) ≡ s
      bottom now [] = refl
      bottom now (e ∷ past) = bottom e.1 past

  -- with no past it is the state now
  pub nothing_is : (m : Machine) → m.past ≡ [] → m ≡ beginning m
  nothing_is m is = λ k. record { state = first_state m.state (sym is k); past = is k }

  pub undos_drop : (n : ℕ) (s : State) (past : List (model.Command × State)) → n ≤ length past → (end_of slots (record { state = s; past = past }) (undos n)).past ≡ drop n past
  undos_drop zero s past l = refl
  undos_drop (suc n) s [] l = absurd (omega (arith, l))
  undos_drop (suc n) s (e ∷ past) l = undos_drop n e.1 past (omega (arith, l))

  pub state_before : (before past : List (model.Command × State)) (now s : State) (d : model.Command)
      → (end_of slots (record { state = now; past = before ++ (d, s) ∷ past }) (undos (suc (length before)))).state ≡ s
  state_before [] past now s d = refl
  state_before (b ∷ before) past now s d = state_before before past b.1 s d

  pub state_undone : (old new : Machine) (d : model.Command) (s : State) (before past : List (model.Command × State))
      → old.past ≡ before ++ (d, s) ∷ past → new ≡ end_of slots old (undos (length before + 1)) → new.state ≡ s
  state_undone old new d s before past is new_is =
      let e : length before + 1 ≡ suc (length before) = omega arith in
      ap (λ (m : Machine). m.state)
      (new_is ∙ (λ k. end_of slots (record { state = old.state; past = is k }) (undos (e k))))
      ∙ state_before before past old.state s d

  -- ---- records

  pub given_back : (s : State) (c : model.Command) (i : Inverse) → record_of slots s c ≡ Some i → back i (state_after slots s c) ≡ s
  given_back s c i is = taken_by slots s c i (refusal slots s c) refl is

  pub newest_recorded : (m : Machine) (c : model.Command) (i : Inverse) → refusal slots m.state c ≡ None → inverse m.state c ≡ Some i → IsNewest slots (after m.state c) ((c, m.state) ∷ m.past) i
  newest_recorded m c i e is = (ap (record_by m.state c) e ∙ is, back_accepted slots m.state c i e is)

  pub history_more : (gone : ℕ) (s : State) (es : List (model.Command × Inverse)) (c : model.Command) (i : Inverse)
      → IsHistory slots gone s es → record_of slots s c ≡ Some i → IsHistory slots gone (state_after slots s c) ((c, i) ∷ es)
  history_more gone s es c i h is =
      let b = given_back s c i is in (
        record {
          record_is = ap (λ (t : State). record_of slots t c) b ∙ is;
          state_is = ap (λ (t : State). state_after slots t c) b;
        },
        subst (λ (t : State). IsHistory slots gone t es) (sym b) h,
      )
