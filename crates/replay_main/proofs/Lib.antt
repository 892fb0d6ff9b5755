pub mod PhaseAnswers
pub mod ReplayCommandLine
pub mod RunJoins
pub mod ScriptLaws
pub mod LinePasses
pub mod Rehearsals
pub mod TurnSteps
mod LineCuts
mod LogParts
