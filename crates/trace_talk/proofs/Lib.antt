pub mod PointCuts
