-- Each event total is at most the number of commands that were ever recorded, those that were forgotten among them.
use Rattle.std.proofs.Common.{◌≡◌, ℕ, ◌<◌, ◌+◌, ◌-◌, ◌^◌, List, [], ◌∷◌, length, Option, Some, None, sym, subst, arith}
use Rattle.std.specs.Prelude.{min}
use Rattle.flat_model.specs.State.{State, start}
use Rattle.flat_model.specs.Command as model
use Rattle.flat_model.specs.Inverse.{Inverse, back}
use Rattle.flat_model.specs.Step.{refusal, after}
use Rattle.flat_model.proofs.Reachable.{start_well_formed}
use Rattle.flat_model.specs.EventTotals.{HasEventsUpTo}
use Rattle.flat_model.specs.WellFormed.{WellFormed}
use Rattle.flat_model.proofs.EventBounds.{start_up, up_more, up_one_more, up_after, up_refused}
use Rattle.pids_charge.specs.Events.{HasRoomForEvents}
use Rattle.undo_journal.specs.Answer.{state_by}
use Rattle.undo_journal.specs.History.{IsFirst, IsHistory}
use Rattle.undo_journal.proofs.Histories.{history_well}

-- the past may begin with the start
pub start_first : (slots : ℕ) (s : State) → s ≡ start → IsFirst slots 0 s
start_first slots s is = record {
  well_formed = subst (WellFormed slots) (sym is) (start_well_formed slots);
  unforgotten = λ z. is;
  counted = λ room. start_up s is;
}

stepped : (n : ℕ) (t : State) (c : model.Command) (o : Option model.Refusal) → HasEventsUpTo n t → HasEventsUpTo (n + 1) (state_by t c o)
stepped n t c None h = up_one_more n (after t c) (up_after n t c h)
stepped n t c (Some r) h = up_refused n t r h

module _ (slots forgotten : ℕ) where
  up_to : (s : State) (es : List (model.Command × Inverse)) → IsHistory slots forgotten s es → forgotten < 2 ^ 64 - 1 → HasEventsUpTo (forgotten + length es) s
  up_to s [] h room = up_more forgotten (forgotten + 0) s (omega arith) (h.counted room)
  up_to s (e ∷ es) h room =
      let n = forgotten + length es in
      let at : n + 1 ≡ forgotten + length (e ∷ es) = omega arith in
      subst (λ (m : ℕ). HasEventsUpTo m s) at
      (subst (HasEventsUpTo (n + 1)) h.0.state_is
      (stepped n (back e.1 s) e.0 (refusal slots (back e.1 s) e.0) (up_to (back e.1 s) es h.1 room)))

  -- so none is the greatest u64 where fewer commands than that were recorded
  pub countable : (s : State) (es : List (model.Command × Inverse)) → IsHistory slots forgotten s es → forgotten + length es < 2 ^ 64 - 1 → HasRoomForEvents s
  countable s es h room p attr is =
      let up = up_to s es h (omega (arith, room)) p attr is in
      (omega (arith, room, up.0), omega (arith, room, up.1))

  -- nothing was recorded: the state is the one that the past began with
  first_is : (s : State) (es : List (model.Command × Inverse)) → IsHistory slots forgotten s es → length es ≡ 0 → forgotten ≡ 0 → s ≡ start
  first_is s [] h none z = h.unforgotten z
  first_is s (e ∷ es) h none z = absurd (omega (arith, none))

  -- what was recorded is forgotten too, and the count stops at the greatest u64
  pub first_again : (s : State) (es : List (model.Command × Inverse)) → IsHistory slots forgotten s es → (more : ℕ) → more ≡ min (forgotten + length es) (2 ^ 64 - 1) → IsFirst slots more s
  first_again s es h more is = record {
    well_formed = history_well slots forgotten s es h;
    unforgotten = λ z. first_is s es h (grind (arith, is, z)) (grind (arith, is, z));
    counted = λ room p attr there.
        let all : more ≡ forgotten + length es = grind (arith, is, room) in
        let up = up_to s es h (omega (arith, room, all)) p attr there in
        (omega (arith, all, up.0), omega (arith, all, up.1));
  }
