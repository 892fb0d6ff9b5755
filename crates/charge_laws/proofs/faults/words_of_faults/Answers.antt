use Rattle.std.proofs.Common.{refl}
use Rattle.std.specs.Fmt.{digits}
use Rattle.charge_laws.proofs.FaultLaws.{memory_is}
use Rattle.charge_laws.proofs.faults.words_of_faults.Goals as goal

pub returns-clause-groups : goal.returns-clause-groups
returns-clause-groups c = refl

pub returns-clause-others : goal.returns-clause-others
returns-clause-others c = refl

pub returns-clause-pids : goal.returns-clause-pids
unfolding digits
returns-clause-pids c = refl

pub returns-clause-memory : goal.returns-clause-memory
returns-clause-memory c = memory_is
