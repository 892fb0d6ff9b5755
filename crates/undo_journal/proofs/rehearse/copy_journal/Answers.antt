use Rattle.undo_journal.specs.History.{journal_entry}
use Rattle.undo_journal.proofs.EngineCopies.{one_more, all_entries}
use Rattle.undo_journal.proofs.rehearse.copy_journal.Goals as goal

pub loop-entry-preserved : goal.loop-entry-preserved
loop-entry-preserved g c =
    one_more journal_entry journal_entry c.args.journal.now c.loop-entry.entries.items c.push.new.self.items c.loop-entry.entry-index c.entry-item.result c.in_ok-copy_entry.field-0
    c.loop-entry-test.true c.entry-item.is c.in_ok-push.ensures.items c.in_ok-copy_entry.ensures c.loop-entry.invariant

pub returns : goal.returns
returns g c = all_entries journal_entry journal_entry c.args.journal.now c.loop-entry.entries.items c.loop-entry.entry-index c.loop-entry-test.false c.loop-entry.invariant
