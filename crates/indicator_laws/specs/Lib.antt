pub mod Cores
pub mod Boards
