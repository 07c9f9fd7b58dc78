pub mod Model
pub mod Paths
pub mod Slice
pub mod Inner
pub mod Cases
