use Rattle.charge_laws.proofs.RunLaws.{parts_are}
use Rattle.charge_laws.proofs.runs.parts_leave_the_same.Goals as goal

pub returns : goal.returns
returns c = parts_are
