pub mod Histories
pub mod TotalBounds
pub mod Beginnings
mod KillUndo
pub mod RecordUndo
mod Undos
mod Newest
pub mod MachineSteps
mod UndoSeries
mod RefusalReplies
mod Acceptance
mod EngineCopies
mod CommandRecords
