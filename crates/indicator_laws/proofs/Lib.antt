mod EventRuns
mod HandShares
mod Deeper
mod Rows
mod NoEvent
mod LawfulRuns
mod EmptyRuns
mod WordLaws
