pub mod Device
pub mod Arguments
pub mod Clusters
