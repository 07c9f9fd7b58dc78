pub mod Eval
pub mod Constraints
pub mod Inner
