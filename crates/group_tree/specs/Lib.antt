pub mod Groups
pub mod Flat
pub mod ChildNames
pub mod NameNumber
pub mod Node
pub mod Settings
pub mod Sorted
pub mod TreeCodes
