pub mod AgreeSameLaws
pub mod CanonicalEvalLaws
pub mod CanonicalWrittenLaws
pub mod SameRelationLaws
pub mod AlikeLaws
pub mod SameCountLaws
pub mod SameAnswerLaws
pub mod Theorems
