use Rattle.std.proofs.Common.{refl}
use Rattle.std.specs.Fmt.{digits}
use Rattle.journal_laws.proofs.meanings.refusals_by_their_words.Goals as goal

pub returns-clause-no_process : goal.returns-clause-no_process
unfolding digits
returns-clause-no_process c = refl

pub returns-clause-pid_in_use : goal.returns-clause-pid_in_use
unfolding digits
returns-clause-pid_in_use c = refl
