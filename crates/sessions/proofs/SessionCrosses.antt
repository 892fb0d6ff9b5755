-- A session may cross threads, and a desk may be shared by them. The search is made in steps, since one for the whole comes to its limit.
use denote.RattleType.{RattleType}
use denote.Hole.{as_row}
use denote.Param.Send.{IsSend, IsSync, Frees, sendable}
use Rattle.std.specs.declared.alloc.Allocator.{Ghosts}
use Rattle.inline_bytes.specs.contracts.bytes.InlineBytes as InlineBytes
use Rattle.std.proofs.Crossing.{crosses}
use Rattle.std.proofs.MapsCrossing as maps
use Rattle.inline_bytes.proofs.bytes.InlineBytes.TheSendSync as inline_bytes
use Rattle.group_path.proofs.path.GroupPath.TheSendSync as group_path
use Rattle.group_tree.proofs.attr.Attr.TheSendSync as attr
use Rattle.group_tree.proofs.node.Node.TheLaws.TheKnot as knot
use Rattle.std.proofs.alloc.Global.TheSendSync as global
use Rattle.pids_charge.proofs.group.Group.TheSendSync as group
use Rattle.pids_charge.proofs.hints.KeptPaths.TheSendSync as kept_paths
use Rattle.pids_charge.proofs.pid.Pid.TheSendSync as pid
use Rattle.process_table.proofs.table.ProcessTable.TheSendSync as process_table
use Rattle.undo_journal.proofs.command.Command.TheSendSync as command
use Rattle.undo_journal.proofs.inverse.Inverse.TheSendSync as inverse
use Rattle.board_meter.proofs.meter.BoardMeter.TheSendSync as meter
use Rattle.sessions.proofs.entry.Entry.TheSendSync as entry
use Rattle.sessions.proofs.entry.Receipt.TheSendSync as receipt
use Rattle.sessions.specs.contracts.book.Book as Book
use Rattle.sessions.specs.contracts.state.DeskState as DeskState
use Rattle.sessions.specs.contracts.shared.Shared as Shared
use Rattle.sessions.specs.contracts.session.Session as Session
use Rattle.sessions.specs.contracts.desk.Desk as Desk

-- the name of a node
pub name_send : (T : RattleType) → (g : Ghosts T.Denot) → IsSend T → IsSync T → Frees {D = T.Denot} {G = Ghosts T.Denot} g g.dealloc_token → IsSend (as_row (InlineBytes.the_field T g))
name_send T g s y f = inline_bytes.the_send T g s y f

book_send : IsSend Book.the_row
book_send = search (
  entry.the_send,
  command.the_field_send,
  inverse.the_field_send,
  meter.the_send,
  knot.crosses,
  group.the_send,
  kept_paths.the_send,
  pid.the_send,
  process_table.the_send,
  attr.the_send,
  name_send,
  group_path.the_send,
  global.the_send,
  global.the_sync,
  sendable,
  crosses,
  maps.crosses,
) depth 24

hall_send : IsSend DeskState.the_row
hall_send = search (book_send, sendable, crosses) depth 20

shared_send : IsSend Shared.the_row
shared_send = search (hall_send, sendable, crosses) depth 20

shared_sync : IsSync Shared.the_row
shared_sync = search (hall_send, sendable, crosses) depth 20

pub session_send : IsSend Session.the_row
session_send = search (receipt.the_send, shared_send, shared_sync, sendable, crosses) depth 20

pub desk_sync : IsSync Desk.the_row
desk_sync = search (global.the_sync, shared_send, shared_sync, sendable, crosses) depth 20
