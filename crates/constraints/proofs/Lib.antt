pub mod EvalLaws
pub mod CountedLaws
pub mod OperatorLaws
pub mod WordLaws
pub mod LeafLaws
pub mod NodeWordLaws
