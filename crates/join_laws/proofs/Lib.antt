pub mod JoinEvalLaws
pub mod BothLaws
pub mod JoinedLaws
pub mod WrittenLaws
pub mod Theorems
