pub mod StepsLaws
pub mod PathLaws
pub mod AskedLaws
pub mod AnswerLaws
