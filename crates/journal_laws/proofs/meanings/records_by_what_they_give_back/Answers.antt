use Rattle.std.proofs.Common.{refl}
use Rattle.flat_model.specs.Command as model
use Rattle.flat_model.specs.Inverse.{Counted}
use Rattle.flat_model.proofs.InverseLaws.{back_refused}
use Rattle.journal_laws.proofs.meanings.records_by_what_they_give_back.Goals as goal

pub returns-clause-counted : goal.returns-clause-counted
returns-clause-counted c = λ s a. back_refused s (model.OverPidsMax a) (Counted a) refl
