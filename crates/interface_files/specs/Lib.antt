pub mod FileMeaning
pub mod Shown
