pub mod Cover
pub mod Cases
