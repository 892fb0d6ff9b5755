-- What entries, receipts and logs of this crate mean in the model.
use Rattle.std.specs.Prelude.{Option, Some, None}
use Rattle.flat_model.specs.Command as model
use Rattle.undo_journal.specs.declared.reply.Reply.{Reply}
use Rattle.undo_journal.specs.CommandMeaning.{reply_of}
-- the number of groups other than the root: the meter under a desk has as many slots as a plain one
pub use Rattle.undo_journal.specs.Slots.{slots}

abbrev pub known : Option model.Reply → model.Reply
known (Some r) = r
known None = model.NothingToUndo

-- the machine's reply; entries and receipts have one, which is never out of memory
abbrev pub answer_of : {A : Type 0} → Reply A → model.Reply
answer_of reply = known (reply_of reply)
