pub mod Chains
pub mod Inner
