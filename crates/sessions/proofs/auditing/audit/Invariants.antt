use Rattle.std.proofs.Common.{take}
use Rattle.flat_model.specs.Audit.{handed}
use Rattle.sessions.specs.Marks.{Audited}
use Rattle.sessions.proofs.auditing.audit.Given as goal

abbrev pub invariant-loop-place : goal.invariant-loop-place
invariant-loop-place l = Audited l.n l.log l.marks.items (handed (take l.place l.sessions))
