use Rattle.sessions.proofs.AuditSteps.{Walk}
use Rattle.sessions.proofs.AuditLists.{so_far}
use Rattle.sessions.proofs.auditing.mark_session.Given as goal

abbrev pub invariant-loop-receipt : goal.invariant-loop-receipt
invariant-loop-receipt l = Walk l.n l.log l.place l.least l.marks.items (so_far l.sessions l.place l.number l.receipt-items l.receipt-index)
