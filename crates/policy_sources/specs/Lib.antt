pub mod Sources
pub mod Inner
