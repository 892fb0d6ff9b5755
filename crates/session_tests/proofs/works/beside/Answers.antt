use denote.Param.Send.{sendable}
use Rattle.std.proofs.Crossing.{crosses}
use Rattle.sessions.proofs.fault.RunFault.TheSendSync as fault
use Rattle.sessions.proofs.SessionCrosses.{session_send}
use Rattle.session_tests.proofs.works.Did.TheSendSync as did
use Rattle.session_tests.proofs.works.Pace.TheSendSync as pace
use Rattle.session_tests.proofs.works.beside.Goals as goal

pub map_vec-requires-send-J : goal.map_vec-requires-send-J
map_vec-requires-send-J g c κs = search (pace.the_send, session_send, sendable, crosses) depth 30

pub map_vec-requires-send-X : goal.map_vec-requires-send-X
map_vec-requires-send-X g c κs = search (fault.the_send, did.the_send, session_send, sendable, crosses) depth 30
