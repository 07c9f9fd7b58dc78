pub mod Layout
pub mod Goal
pub mod Questions
pub mod Sets
pub mod Inner
pub mod Cases
