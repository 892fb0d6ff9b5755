use denote.Param.Send.{sendable}
use Rattle.std.proofs.Crossing.{crosses}
use Rattle.makhloeum.proofs.SessionCrosses.{session_send}
use Rattle.example_desk.proofs.main.Goals as goal

pub join-one-requires-send-F : goal.join-one-requires-send-F
join-one-requires-send-F g c κs = search (session_send, sendable, crosses) depth 30

pub join-one-requires-send-A : goal.join-one-requires-send-A
join-one-requires-send-A g c κs = search (session_send, sendable, crosses) depth 30
