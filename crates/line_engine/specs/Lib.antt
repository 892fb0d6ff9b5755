pub mod FaultCodes
pub mod Buffer
pub mod LineAnswers
pub mod Ready
pub mod Listings
pub mod Numbers
pub mod PathFaults
