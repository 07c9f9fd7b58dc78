pub mod AgreeLaws
pub mod CarryLaws
pub mod AgreeQuestionLaws
pub mod WrittenLaws
pub mod StemEvalLaws
