pub mod Excess
pub mod Roles
pub mod HelperParts
