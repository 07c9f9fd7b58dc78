pub mod Cases
pub mod Uniting
pub mod SourceLaws
pub mod CountedLaws
