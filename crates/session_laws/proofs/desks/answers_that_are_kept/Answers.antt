use Rattle.std.proofs.Common.{◌≡◌, ◌≢◌, Some, None, refl}
use Rattle.std.specs.declared.alloc.Global.{Global}
use Rattle.undo_journal.specs.declared.reply.Reply.{Reply}
use Rattle.undo_journal.specs.declared.reply.Reply.TheVariants.{Done, Text, Undone, Refused, NothingToUndo, OutOfMemory}
use Rattle.undo_journal.specs.CommandMeaning.{reply_of}
use Rattle.sessions.specs.SessionMeaning.{answer_of}
use Rattle.session_laws.proofs.desks.answers_that_are_kept.Goals as goal

kept : (r : Reply Global) → reply_of r ≢ None → Some (answer_of r) ≡ reply_of r
kept Done h = refl
kept (Text bytes) h = refl
kept (Undone command) h = refl
kept (Refused refusal) h = refl
kept NothingToUndo h = refl
kept OutOfMemory h = absurd (h refl)

pub returns-clause-same : goal.returns-clause-same
returns-clause-same c = kept
