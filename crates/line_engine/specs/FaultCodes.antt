-- The codes of refusals and faults.
use Rattle.std.specs.Prelude.{ℕ}
use Rattle.flat_model.specs.Command.{Refusal, Exists, NoGroup, Descendants, Depth, NoSlot, RootFixed, HasChildren, HasProcesses, NoProcess, PidInUse, OverPidsMax, NoFile, NotReadable}
use Rattle.flat_model.specs.Command.{Reply, Done, Text, Undone, Refused, NothingToUndo}
use Rattle.flat_model.specs.Trace.{TextFault, BadSyntax, BadPath, BadFile, BadDirection, BadValue}

abbrev pub refusal_code : Refusal → ℕ
refusal_code Exists = 1
refusal_code (NoGroup p) = 2
refusal_code (Descendants p) = 3
refusal_code (Depth p) = 4
refusal_code NoSlot = 5
refusal_code RootFixed = 6
refusal_code HasChildren = 7
refusal_code HasProcesses = 8
refusal_code (NoProcess pid) = 9
refusal_code (PidInUse pid) = 10
refusal_code (OverPidsMax p) = 11
refusal_code NoFile = 12
refusal_code NotReadable = 13

-- 0 for a command that was done
abbrev pub reply_code : Reply → ℕ
reply_code Done = 0
reply_code (Text text) = 0
reply_code (Undone c) = 0
reply_code (Refused r) = refusal_code r
reply_code NothingToUndo = 14

abbrev pub fault_code : TextFault → ℕ
fault_code BadSyntax = 32
fault_code BadPath = 33
fault_code BadFile = 34
fault_code BadDirection = 35
fault_code BadValue = 36
