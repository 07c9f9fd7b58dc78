pub mod Layout
pub mod Policy
pub mod Encoding
pub mod OfKind
pub mod Counts
pub mod Inner
pub mod Cases
