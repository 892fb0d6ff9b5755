use mathlib.Core.List.{[], ◌∷◌}
use mir.Syntax.{Sym}
use denote.Exit.{no}
use denote.RattleType.{RattleType}
use denote.Ref.{NamedLft}
use denote.Param.{param}
use denote.Param.Send.{IsSend, IsSync, sendable, param_send, arg_send}
use denote.Struct.Field.{shr_ref_field, shr_slice_field, usize-field}
use denote.Struct.Tuple.{TupleAt}
use Rattle.std.proofs.Crossing.{crosses}
use Rattle.std.specs.contracts.sync.Mutex as Mutex
use Rattle.std.specs.contracts.vec.Vec as Vec
use Rattle.std.specs.contracts.sync.atomic.AtomicBool as AtomicBool
use Rattle.sessions.specs.contracts.desk.Desk as Desk
use Rattle.sessions.specs.contracts.session.Session as Session
use Rattle.std.specs.contracts.alloc.Global as Global
use Rattle.std.specs.contracts.impls.GlobalAllocator.TheImpl as allocator
use Rattle.std.proofs.sync.atomic.AtomicBool.TheSendSync as flag
use Rattle.std.proofs.sync.Mutex.TheSendSync as mutex
use Rattle.undo_journal.proofs.command.Command.TheSendSync as command
use Rattle.sessions.proofs.SessionCrosses.{desk_sync, session_send}
use Rattle.replay_main.specs.contracts.reading.Script as Script
use Rattle.replay_main.proofs.reading.Script.TheSendSync as script
use Rattle.replay_main.proofs.turns.fn.serve_all.scope.Goals as goal

abbrev sessions_row : RattleType
sessions_row = Vec.the_row Session.the_row Global.the_row allocator.ghosts

sessions_sync : IsSync (Mutex.the_row sessions_row)
sessions_sync = search (session_send, mutex.the_sync, sendable, crosses) depth 20

flag_sync : IsSync AtomicBool.the_row
flag_sync = search (flag.the_sync, sendable, crosses) depth 20

script_sync : IsSync Script.the_row
script_sync = search (command.the_send, command.the_sync, script.the_sync, sendable, crosses) depth 20

-- what the work of a worker holds may go to its thread, where runtime and test hook may be shared
work_send : (ν : Sym) (R G : RattleType) → IsSync R → IsSync G → (a b c d e f : NamedLft)
    → IsSend (TupleAt ν ((shr_ref_field a (param 0 R) tt).row ∷ (shr_ref_field b (param 1 G) tt).row ∷ (shr_ref_field c Desk.the_row tt).row
    ∷ (shr_ref_field d (Mutex.the_row sessions_row) tt).row ∷ (shr_slice_field e Script.the_row tt).row
    ∷ (shr_ref_field f AtomicBool.the_row tt).row ∷ usize-field.row ∷ []))
work_send ν R G r s a b c d e f = search (desk_sync, sessions_sync, script_sync, flag_sync, sendable) depth 20

-- `search` does not find at which exit the work is passed, so it is named
pub spawn-requires-send-F : goal.spawn-requires-send-F
spawn-requires-send-F g c κs h =
    param_send 1 _ (arg_send _ no _ (work_send _ _ _ c.requires.0 c.requires.1 _ _ _ _ _ _))
