pub mod GoalLaws
pub mod ModelLaws
pub mod SizeLaws
pub mod AnswerLaws
pub mod AskedLaws
