pub mod ChosenPids
pub mod Outcomes
pub mod PageChanges
pub mod RowLaws
pub mod SameNumbers
pub mod Tables
pub mod CellTies
