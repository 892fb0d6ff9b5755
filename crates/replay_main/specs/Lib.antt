pub mod WholeInput
pub mod Replayed
pub mod Rehearsed
pub mod ReplayArguments
pub mod ReplayProgram
pub mod RangeResults
pub mod Script
pub mod WorkerTurns
