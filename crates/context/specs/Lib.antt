pub mod Codes
pub mod Ranges
pub mod Inner
