pub mod Authorization
pub mod Cases
