pub mod LeastSteps
pub mod Inner
