pub mod Shorts
pub mod OutputPrefixes
pub mod Stricts
pub mod EmptiedPasts
mod TalkLines
mod ProgramEnds
