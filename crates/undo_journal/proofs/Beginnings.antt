-- Where the past of a machine begins stays the same under every command.
use Rattle.std.proofs.Common.{◌≡◌, ℕ, true, false, cond, List, [], ◌∷◌, Option, Some, None, refl}
use Rattle.flat_model.specs.State.{State}
use Rattle.flat_model.specs.Command as model
use Rattle.flat_model.specs.Step.{refusal, after, after_refusal}
use Rattle.flat_model.specs.Machine.{Machine, recorded, outcome, undone, tick}
use Rattle.undo_journal.specs.Beginning.{first_state, beginning}

outcome_begins : (m : Machine) (c : model.Command) (o : Option model.Refusal) → beginning (outcome m c o).0 ≡ beginning m
outcome_begins m c None = elim (model.changes c) as (λ b. beginning (cond b (recorded m c (after m.state c)) m) ≡ beginning m) [ true ↦ refl | false ↦ refl ]
outcome_begins m c (Some r) = elim (model.is_counted r) as (λ b. beginning (cond b (recorded m c (after_refusal m.state r)) m) ≡ beginning m) [ true ↦ refl | false ↦ refl ]

undone_begins : (s : State) (past : List (model.Command × State)) → beginning (undone s past).0 ≡ record { state = first_state s past; past = [] }
undone_begins s [] = refl
undone_begins s (e ∷ past) = refl

pub tick_begins : (slots : ℕ) (m : Machine) (c : model.Command) → beginning (tick slots m c).0 ≡ beginning m
tick_begins slots m c =
    elim (model.is_undo c) as (λ b. beginning (cond b (undone m.state m.past) (outcome m c (refusal slots m.state c))).0 ≡ beginning m) [
      | true ↦ undone_begins m.state m.past
      | false ↦ outcome_begins m c (refusal slots m.state c)
    ]
