use denote.Param.Send.{sendable}
use Rattle.std.proofs.Crossing.{crosses}
use Rattle.std.proofs.alloc.Global.TheSendSync as global
use Rattle.sessions.proofs.SessionCrosses.{session_send}
use Rattle.session_tests.proofs.works.Pace.TheSendSync as pace
use Rattle.session_tests.proofs.races.both_beside.Goals as goal

pub join-requires-send-F : goal.join-requires-send-F
join-requires-send-F g c κs = search (global.the_sync, pace.the_sync, session_send, sendable, crosses) depth 30
