use denote.Param.Send.{sendable}
use Rattle.std.proofs.Crossing.{crosses}
use Rattle.std.proofs.alloc.Global.TheSendSync as global
use Rattle.sessions.proofs.fault.RunFault.TheSendSync as fault
use Rattle.sessions.proofs.SessionCrosses.{session_send}
use Rattle.session_tests.proofs.works.Did.TheSendSync as did
use Rattle.session_tests.proofs.works.Pace.TheSendSync as pace
use Rattle.session_tests.proofs.races.is_before_or_after.Goals as goal

pub join-session-requires-send-F : goal.join-session-requires-send-F
join-session-requires-send-F g c κs = search (global.the_send, global.the_sync, pace.the_send, pace.the_sync, session_send, sendable, crosses) depth 30

pub join-session-requires-send-A : goal.join-session-requires-send-A
join-session-requires-send-A g c κs = search (fault.the_send, did.the_send, session_send, sendable, crosses) depth 30
