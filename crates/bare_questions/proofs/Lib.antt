pub mod BareLaws
pub mod Cases
