pub mod Model
pub mod Journal
pub mod Sessions
pub mod Traces
