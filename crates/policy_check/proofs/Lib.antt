pub mod AnswerLaws
pub mod Tests
pub mod Cases
