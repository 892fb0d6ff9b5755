-- What the program's commands, replies and records mean in the model. A value over one allocator means the same as over another.
use Rattle.std.specs.Prelude.{Option, Some, None}
use Rattle.undo_journal.specs.declared.command.Command.{Command}
use Rattle.undo_journal.specs.declared.command.Command.TheVariants.{MakeGroup, RemoveGroup, Fork, Exit, Move, SetLimit, Kill, Show, Locate, Undo}
use Rattle.undo_journal.specs.declared.reply.Refusal.{Refusal}
use Rattle.undo_journal.specs.declared.reply.Refusal.TheVariants.{Exists, NoGroup, Descendants, Depth, NoSlot, RootFixed, HasChildren, HasProcesses, NoProcess, PidInUse, PidsMax, NoFile, NotReadable}
use Rattle.undo_journal.specs.declared.reply.Reply.{Reply}
use Rattle.undo_journal.specs.declared.reply.Reply.TheVariants.{Done, Text, Undone, Refused, NothingToUndo, OutOfMemory}
use Rattle.undo_journal.specs.declared.inverse.Inverse.{Inverse}
use Rattle.undo_journal.specs.declared.inverse.Inverse.TheVariants.{Made, Removed, Forked, Exited, Moved, Limited, Counted, Killed}
use Rattle.group_tree.specs.Flat.{limit_of, limit_file_of, group_of}
use Rattle.interface_files.specs.FileMeaning.{file_of}
use Rattle.flat_model.specs.Command as model
use Rattle.flat_model.specs.Inverse as model_inverse

abbrev pub command_of : {A : Type 0} → Command A → model.Command
command_of (MakeGroup path) = model.MakeGroup path
command_of (RemoveGroup path) = model.RemoveGroup path
command_of (Fork parent child) = model.Fork parent child
command_of (Exit pid) = model.Exit pid
command_of (Move path pid) = model.Move path pid
command_of (SetLimit path file value) = model.SetLimit path (limit_file_of file) (limit_of value)
command_of (Kill path) = model.Kill path
command_of (Show path file) = model.Show path (file_of file)
command_of (Locate pid) = model.Locate pid
command_of Undo = model.Undo

abbrev pub refusal_of : {A : Type 0} → Refusal A → model.Refusal
refusal_of Exists = model.Exists
refusal_of (NoGroup path) = model.NoGroup path
refusal_of (Descendants path) = model.Descendants path
refusal_of (Depth path) = model.Depth path
refusal_of NoSlot = model.NoSlot
refusal_of RootFixed = model.RootFixed
refusal_of HasChildren = model.HasChildren
refusal_of HasProcesses = model.HasProcesses
refusal_of (NoProcess pid) = model.NoProcess pid
refusal_of (PidInUse pid) = model.PidInUse pid
refusal_of (PidsMax path) = model.OverPidsMax path
refusal_of NoFile = model.NoFile
refusal_of NotReadable = model.NotReadable

-- the machine's reply, or none when out of memory
abbrev pub reply_of : {A : Type 0} → Reply A → Option model.Reply
reply_of Done = Some model.Done
reply_of (Text bytes) = Some (model.Text bytes)
reply_of (Undone command) = Some (model.Undone (command_of command))
reply_of (Refused refusal) = Some (model.Refused (refusal_of refusal))
reply_of NothingToUndo = Some model.NothingToUndo
reply_of OutOfMemory = None

abbrev pub inverse_of : {A : Type 0} → Inverse A → model_inverse.Inverse
inverse_of (Made path) = model_inverse.Made path
inverse_of (Removed path attr) = model_inverse.Removed path (group_of attr.value)
inverse_of (Forked pid peaks) = model_inverse.Forked pid peaks
inverse_of (Exited pid path) = model_inverse.Exited pid path
inverse_of (Moved pid path peaks) = model_inverse.Moved pid path peaks
inverse_of (Limited path file value) = model_inverse.Limited path (limit_file_of file) (limit_of value)
inverse_of (Counted path) = model_inverse.Counted path
inverse_of (Killed list) = model_inverse.Killed list
