use Rattle.std.proofs.Common.{◌≡◌, map, take}
use Rattle.undo_journal.specs.History.{journal_entry}
use Rattle.undo_journal.proofs.rehearse.copy_journal.Given as goal

abbrev pub invariant-loop-entry : goal.invariant-loop-entry
invariant-loop-entry g l = map journal_entry l.entries.items ≡ map journal_entry (take l.entry-index l.journal)
