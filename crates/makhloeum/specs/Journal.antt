-- The meaning of commands, replies and records, and what an engine answers, keeps and shows.
pub use Rattle.pids_charge.specs.Content
pub use Rattle.interface_files.specs.Shown
pub use Rattle.undo_journal.specs.CommandMeaning
pub use Rattle.undo_journal.specs.Answer
pub use Rattle.undo_journal.specs.Beginning
pub use Rattle.undo_journal.specs.Headline
pub use Rattle.undo_journal.specs.History
pub use Rattle.undo_journal.specs.Timeline
