pub mod Cut
pub mod LineMeaning
pub mod Action
pub mod Replied
