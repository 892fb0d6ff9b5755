mod AuditLists
mod AuditSteps
mod DueTurns
mod Legal
pub mod SessionCrosses
mod CommandUndo
mod TurnOrder
