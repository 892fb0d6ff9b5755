pub mod Cells
pub mod Rows
pub mod Members
pub mod Tied
pub mod Chosen
