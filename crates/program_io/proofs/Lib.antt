pub mod KnownBytes
pub mod CommandLines
pub mod ClusterSearches
