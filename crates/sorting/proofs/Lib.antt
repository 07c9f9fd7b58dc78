pub mod OrderLaws
pub mod DigitLaws
pub mod Cases
pub mod MaskLaws
pub mod EntryLaws
