-- Each command, refusal and reply of the model is the meaning of one of the program.
use Rattle.std.proofs.Common.{◌≡◌, Some, refl, ap}
use Rattle.std.specs.declared.alloc.Global.{Global}
use Rattle.flat_model.specs.Command as model
use Rattle.flat_model.specs.File as model_file
use Rattle.flat_model.specs.State as flat
use Rattle.group_tree.specs.declared.attr.Limit.{Limit}
use Rattle.group_tree.specs.declared.attr.Limit.TheVariants as limit
use Rattle.group_tree.specs.declared.attr.LimitFile.{LimitFile}
use Rattle.group_tree.specs.declared.attr.LimitFile.TheVariants as limit_file
use Rattle.group_tree.specs.Flat.{limit_of, limit_file_of}
use Rattle.undo_journal.specs.declared.command.Command.{Command}
use Rattle.undo_journal.specs.declared.command.Command.TheVariants as command
use Rattle.undo_journal.specs.declared.reply.Refusal.{Refusal}
use Rattle.undo_journal.specs.declared.reply.Refusal.TheVariants as refusal
use Rattle.undo_journal.specs.declared.reply.Reply.{Reply}
use Rattle.undo_journal.specs.declared.reply.Reply.TheVariants as reply
use Rattle.undo_journal.specs.CommandMeaning.{command_of, refusal_of, reply_of}
use Rattle.journal_laws.proofs.FileMeanings.{file_for}

limit_meant : (m : flat.Limit) → (l : Limit) × (limit_of l ≡ m)
limit_meant flat.Unlimited = (limit.Unlimited, refl)
limit_meant (flat.At n) = (limit.At n, refl)

limit_file_meant : (m : model_file.LimitFile) → (f : LimitFile) × (limit_file_of f ≡ m)
limit_file_meant model_file.PidsMax = (limit_file.PidsMax, refl)
limit_file_meant model_file.MaxDescendants = (limit_file.MaxDescendants, refl)
limit_file_meant model_file.MaxDepth = (limit_file.MaxDepth, refl)

pub command_meant : (m : model.Command) → (c : Command Global) × (command_of c ≡ m)
command_meant (model.MakeGroup p) = (command.MakeGroup p, refl)
command_meant (model.RemoveGroup p) = (command.RemoveGroup p, refl)
command_meant (model.Fork from child) = (command.Fork from child, refl)
command_meant (model.Exit pid) = (command.Exit pid, refl)
command_meant (model.Move p pid) = (command.Move p pid, refl)
command_meant (model.SetLimit p f value) =
    let g = limit_file_meant f in
    let l = limit_meant value in
    (command.SetLimit p g.0 l.0, λ k. model.SetLimit p (g.1 k) (l.1 k))
command_meant (model.Kill p) = (command.Kill p, refl)
command_meant (model.Show p f) = let g = file_for f in (command.Show p g.0, λ k. model.Show p (g.1 k))
command_meant (model.Locate pid) = (command.Locate pid, refl)
command_meant model.Undo = (command.Undo, refl)

pub refusal_meant : (m : model.Refusal) → (r : Refusal Global) × (refusal_of r ≡ m)
refusal_meant model.Exists = (refusal.Exists, refl)
refusal_meant (model.NoGroup p) = (refusal.NoGroup p, refl)
refusal_meant (model.Descendants p) = (refusal.Descendants p, refl)
refusal_meant (model.Depth p) = (refusal.Depth p, refl)
refusal_meant model.NoSlot = (refusal.NoSlot, refl)
refusal_meant model.RootFixed = (refusal.RootFixed, refl)
refusal_meant model.HasChildren = (refusal.HasChildren, refl)
refusal_meant model.HasProcesses = (refusal.HasProcesses, refl)
refusal_meant (model.NoProcess pid) = (refusal.NoProcess pid, refl)
refusal_meant (model.PidInUse pid) = (refusal.PidInUse pid, refl)
refusal_meant (model.OverPidsMax p) = (refusal.PidsMax p, refl)
refusal_meant model.NoFile = (refusal.NoFile, refl)
refusal_meant model.NotReadable = (refusal.NotReadable, refl)

pub reply_meant : (m : model.Reply) → (r : Reply Global) × (reply_of r ≡ Some m)
reply_meant model.Done = (reply.Done, refl)
reply_meant (model.Text bytes) = (reply.Text bytes, refl)
reply_meant (model.Undone c) = let d = command_meant c in (reply.Undone d.0, ap (λ x. Some (model.Undone x)) d.1)
reply_meant (model.Refused r) = let q = refusal_meant r in (reply.Refused q.0, ap (λ x. Some (model.Refused x)) q.1)
reply_meant model.NothingToUndo = (reply.NothingToUndo, refl)
