pub mod Images
pub mod Cases
