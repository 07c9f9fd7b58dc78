pub mod CanonicalImages
pub mod CanonicalQuestions
pub mod CanonicalPairs
pub mod CanonicalCrowded
pub mod Canonical
pub mod CanonicalStandIns
pub mod CanonicalClauses
pub mod CanonicalSame
