pub mod Facts
pub mod Canonical
pub mod Inner
pub mod Cases
