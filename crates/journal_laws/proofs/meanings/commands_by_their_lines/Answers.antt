use Rattle.std.proofs.Common.{refl}
use Rattle.std.specs.Fmt.{digits}
use Rattle.journal_laws.proofs.meanings.commands_by_their_lines.Goals as goal

pub returns-clause-fork : goal.returns-clause-fork
unfolding digits
returns-clause-fork c = refl

pub returns-clause-exit : goal.returns-clause-exit
unfolding digits
returns-clause-exit c = refl

pub returns-clause-move_to : goal.returns-clause-move_to
unfolding digits
returns-clause-move_to c = refl

pub returns-clause-pids : goal.returns-clause-pids
unfolding digits
returns-clause-pids c = refl

pub returns-clause-locate : goal.returns-clause-locate
unfolding digits
returns-clause-locate c = refl
