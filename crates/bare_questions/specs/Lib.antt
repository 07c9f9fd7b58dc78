pub mod Bare
pub mod Inner
