mod FaultLaws
mod SituationLaws
mod FlatLaws
mod ClosedLaws
mod BelowLaws
