-- The meaning of lines and words in the model.
use Rattle.std.specs.Prelude.{◌≡◌, Bool, true, false, Result, Ok, Err}
use Rattle.std.specs.Result.{IsOk}
use Rattle.std.specs.declared.alloc.AllocError.{AllocError}
use Rattle.flat_model.specs.Path as model_path
use Rattle.flat_model.specs.Command as model
use Rattle.flat_model.specs.Trace as trace
use Rattle.undo_journal.specs.declared.command.Command.{Command}
use Rattle.undo_journal.specs.CommandMeaning.{command_of}
use Rattle.trace_lines.specs.declared.fault.TextFault.{TextFault}
use Rattle.trace_lines.specs.declared.fault.TextFault.TheVariants.{Syntax, Path, File, Direction, Value}
use Rattle.trace_lines.specs.declared.fault.Unread.{Unread}
use Rattle.trace_lines.specs.declared.fault.Unread.TheVariants as unread
use Rattle.trace_lines.specs.declared.line.Line.{Line}
use Rattle.trace_lines.specs.declared.line.Line.TheVariants.{Skip, Run, Fault}

abbrev pub text_fault_of : TextFault → trace.TextFault
text_fault_of Syntax = trace.BadSyntax
text_fault_of Path = trace.BadPath
text_fault_of File = trace.BadFile
text_fault_of Direction = trace.BadDirection
text_fault_of Value = trace.BadValue

abbrev pub trace_line_of : Line → trace.Line
trace_line_of Skip = trace.Skip
trace_line_of (Run command) = trace.Run (command_of command)
trace_line_of (Fault fault) = trace.Fault (text_fault_of fault)

-- ---- what may be out of memory

abbrev pub has_path : model.Command → Bool
has_path (model.MakeGroup p) = true
has_path (model.RemoveGroup p) = true
has_path (model.Fork m n) = false
has_path (model.Exit pid) = false
has_path (model.Move p pid) = true
has_path (model.SetLimit p file value) = true
has_path (model.Kill p) = true
has_path (model.Show p file) = true
has_path (model.Locate pid) = false
has_path model.Undo = false

-- a command that has a path, and no fault
abbrev pub is_at_path : Result model.Command trace.TextFault → Bool
is_at_path (Ok c) = has_path c
is_at_path (Err f) = false

abbrev pub runs_at_path : trace.Line → Bool
runs_at_path trace.Skip = false
runs_at_path (trace.Run c) = has_path c
runs_at_path (trace.Fault f) = false

-- ---- what is read

-- the path or the fault of the model; out of memory only instead of a path
abbrev pub ReadsPath : Result model_path.Path Unread → Result model_path.Path trace.TextFault → Type 0
ReadsPath (Ok path) m = m ≡ Ok path
ReadsPath (Err (unread.Fault fault)) m = m ≡ Err (text_fault_of fault)
ReadsPath (Err unread.OutOfMemory) m = IsOk m

-- the command or the fault of the model; out of memory only instead of a command with a path
abbrev pub ReadsCommand : {A : Type 0} → Result (Command A) Unread → Result model.Command trace.TextFault → Type 0
ReadsCommand (Ok command) m = m ≡ Ok (command_of command)
ReadsCommand (Err (unread.Fault fault)) m = m ≡ Err (text_fault_of fault)
ReadsCommand (Err unread.OutOfMemory) m = is_at_path m ≡ true

-- the line of the model; out of memory only instead of a command with a path
abbrev pub Says : Result Line AllocError → trace.Line → Type 0
Says (Ok line) m = trace_line_of line ≡ m
Says (Err e) m = runs_at_path m ≡ true
