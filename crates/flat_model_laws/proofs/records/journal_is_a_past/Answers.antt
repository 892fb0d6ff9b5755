use Rattle.std.proofs.Common.{◌∷◌}
use Rattle.flat_model.specs.Inverse.{past_of}
use Rattle.flat_model.proofs.InverseLaws.{back_accepted, back_refused}
use Rattle.flat_model_laws.proofs.records.journal_is_a_past.Goals as goal

pub returns-clause-accepted : goal.returns-clause-accepted
returns-clause-accepted x = λ slots s c i journal first is. let b = back_accepted slots s c i first is in λ k. (c, b k) ∷ past_of (b k) journal

pub returns-clause-counted : goal.returns-clause-counted
returns-clause-counted x = λ s c r i journal is. let b = back_refused s r i is in λ k. (c, b k) ∷ past_of (b k) journal
