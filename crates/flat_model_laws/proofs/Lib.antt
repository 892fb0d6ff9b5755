mod KillLaws
mod NearestLaws
mod HierarchyLimits
mod LimitsExact
mod HierarchyLimitsExact
mod AcceptedLaws
mod DescendantLaws
mod EventLaws
mod PeakLaws
mod ClosedStates
mod PastLaws
mod NewGroups
mod WordLaws
mod ValueLaws
mod Directions
mod CommandTextLawsWords
mod CommandTextLaws
mod CommandTextLawsOnly
mod CommandTextLawsTrace
mod ExamplesReads
mod ExamplesLists
pub mod ExamplesMachine
pub mod AuditLaws
pub mod AuditSame
pub mod ExamplesAudits
mod ExamplesLogs
mod LogLaws
mod LimitChanges
mod MappedReadings
mod ReplyWords
