pub mod SessionMeaning
pub mod Served
pub mod Receipts
pub mod Faults
pub mod Marks
pub mod Desks
pub mod Waits
pub mod Turns
