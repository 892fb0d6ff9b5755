pub mod TextCuts
pub mod Readings
pub mod Actions
mod FaultOrder
mod SameTexts
