pub mod UseLaws
pub mod Marks
pub mod Cases
