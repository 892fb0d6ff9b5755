use mathlib.Core.List.{[], ◌∷◌}
use mir.Syntax.{Sym, named}
use denote.Exit.{no}
use denote.RattleType.{RattleType}
use denote.Ref.{NamedLft}
use denote.Param.{param}
use denote.Param.Send.{IsSend, IsSync, sendable, param_send, arg_send}
use denote.Struct.Field.{shr_ref_field, u8-field, u64-field}
use denote.Struct.Tuple.{TupleAt}
use Rattle.sessions.specs.contracts.desk.Desk as Desk
use Rattle.sessions.proofs.SessionCrosses.{desk_sync}
use Rattle.session_tests.proofs.races.both.Goals as goal

-- what a waiting thread holds may go to it, where the runtime may be shared
waits_send : (ν : Sym) (R : RattleType) → IsSync (param 0 R) → (a b c d : NamedLft)
    → IsSend (TupleAt ν ((shr_ref_field a Desk.the_row tt).row ∷ (shr_ref_field b (param 0 R) tt).row
    ∷ (shr_ref_field c u8-field.row tt).row ∷ (shr_ref_field d u64-field.row tt).row ∷ []))
waits_send ν R s a b c d = search (desk_sync, sendable) depth 20

-- `search` does not find at which exit the closure is passed, so it is named
pub join-first-requires-send-F : goal.join-first-requires-send-F
join-first-requires-send-F g c κs h =
    param_send 1 _ (arg_send _ no _ (waits_send _ g.row.R c.type_bounds.sync-R _ _ (record { mir = named 8; lft = κs.1.1.1.1.1.1.1.1.0 }) (record { mir = named 9; lft = κs.1.1.1.1.1.1.1.1.1.0 })))
