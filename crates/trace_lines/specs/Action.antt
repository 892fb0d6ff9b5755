-- The meaning of the words after a path, in the model.
use Rattle.std.specs.Prelude.{Result, Ok, Err}
use Rattle.group_tree.specs.Flat.{limit_of, limit_file_of}
use Rattle.flat_model.specs.Refuse.{and_then}
use Rattle.flat_model.specs.Path.{Path}
use Rattle.flat_model.specs.Command as model
use Rattle.flat_model.specs.Trace.{Word, file_word, write_of, show_of}
use Rattle.flat_model.specs.Trace as trace
use Rattle.interface_files.specs.FileMeaning.{file_of}
use Rattle.undo_journal.specs.declared.command.Command.{Command}
use Rattle.trace_lines.specs.declared.action.Action.{Action}
use Rattle.trace_lines.specs.declared.action.Action.TheVariants.{Move, SetLimit, Kill, Show}
use Rattle.trace_lines.specs.declared.fault.TextFault.{TextFault}
use Rattle.trace_lines.specs.declared.fault.Unread.{Unread}
use Rattle.trace_lines.specs.LineMeaning.{text_fault_of, ReadsPath, ReadsCommand}

-- the meaning of the words after the path of a `write`, and of a `cat`
abbrev pub write_at : Path → Word → Word → Result model.Command trace.TextFault
write_at path file value = and_then (file_word file) (λ f. write_of path f value)

abbrev pub show_at : Path → Word → Result model.Command trace.TextFault
show_at path file = and_then (file_word file) (show_of path)

-- the command of an action on a path
abbrev pub command_at : Path → Action → model.Command
command_at path (Move pid) = model.Move path pid
command_at path (SetLimit file value) = model.SetLimit path (limit_file_of file) (limit_of value)
command_at path Kill = model.Kill path
command_at path (Show file) = model.Show path (file_of file)

-- that command, or the fault instead of an action
abbrev pub action_at : Path → Result Action TextFault → Result model.Command trace.TextFault
action_at path (Ok action) = Ok (command_at path action)
action_at path (Err fault) = Err (text_fault_of fault)

-- the path is read before the action
abbrev pub ReadsAction : {A : Type 0} → Result Path Unread → Result Action TextFault → Result (Command A) Unread → Type 0
ReadsAction path action result = (m : Result Path trace.TextFault) → ReadsPath path m → ReadsCommand result (and_then m (λ p. action_at p action))
