-- A worker may cross threads. The search is made in steps, since one for the whole comes to its limit.
use denote.RattleType.{RattleType}
use denote.Param.Send.{IsSend, sendable}
use Rattle.std.specs.contracts.alloc.Global as Global
use Rattle.std.specs.contracts.impls.GlobalAllocator.TheImpl as allocator
use Rattle.std.below.core.specs.contracts.clone.Clone+copy.TheImpl as clone
use Rattle.pids_charge.specs.contracts.plain.PlainMeter as PlainMeter
use Rattle.pids_charge.specs.contracts.plain.PlainMeterMeter.TheImpl as plain_meter
use Rattle.board_meter.specs.contracts.meter.BoardMeter as BoardMeter
use Rattle.board_meter.specs.contracts.meter.BoardMeterMeter.TheImpl as board_meter
use Rattle.undo_journal.specs.contracts.engine.Engine as Engine
use Rattle.std.proofs.Crossing.{crosses}
use Rattle.std.proofs.MapsCrossing as maps
use Rattle.std.proofs.alloc.Global.TheSendSync as global
use Rattle.group_path.proofs.path.GroupPath.TheSendSync as group_path
use Rattle.group_tree.proofs.attr.Attr.TheSendSync as attr
use Rattle.group_tree.proofs.node.Node.TheLaws.TheKnot as knot
use Rattle.pids_charge.proofs.group.Group.TheSendSync as group
use Rattle.pids_charge.proofs.hints.KeptPaths.TheSendSync as kept_paths
use Rattle.pids_charge.proofs.pid.Pid.TheSendSync as pid
use Rattle.pids_charge.proofs.plain.PlainMeter.TheSendSync as plain
use Rattle.process_table.proofs.table.ProcessTable.TheSendSync as process_table
use Rattle.undo_journal.proofs.command.Command.TheSendSync as command
use Rattle.undo_journal.proofs.inverse.Inverse.TheSendSync as inverse
use Rattle.board_meter.proofs.meter.BoardMeter.TheSendSync as board
use Rattle.sessions.proofs.SessionCrosses.{name_send, session_send}
use Rattle.desk_bench.proofs.serve.Goals as goal

abbrev board_row : RattleType
board_row = Engine.the_row Global.the_row BoardMeter.the_row allocator.ghosts (clone.ghosts Global.the_row) board_meter.ghosts

abbrev plain_row : RattleType
plain_row = Engine.the_row Global.the_row (PlainMeter.the_row Global.the_row allocator.ghosts) allocator.ghosts (clone.ghosts Global.the_row) (plain_meter.ghosts Global.the_row allocator.ghosts plain_meter.no_dict plain_meter.no_dict)

ruleset parts = (
  command.the_field_send,
  inverse.the_field_send,
  knot.crosses,
  group.the_send,
  kept_paths.the_send,
  pid.the_send,
  process_table.the_send,
  attr.the_send,
  name_send,
  group_path.the_send,
  global.the_send,
  global.the_sync,
  sendable,
  crosses,
  maps.crosses,
)

board_send : IsSend board_row
board_send = search (board.the_send, parts) depth 20

plain_send : IsSend plain_row
plain_send = search (plain.the_send, parts) depth 20

pub map_vec-requires-send-J : goal.map_vec-requires-send-J
map_vec-requires-send-J g c κs within = search (session_send, board_send, plain_send, pid.the_send, sendable, crosses) depth 30
