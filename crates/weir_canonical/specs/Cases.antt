-- Named inputs, written out, and what the theorems about them say. No outward promise rests on them.
pub mod CanonicalPolicies
pub mod Canonical
pub mod CanonicalWrong
pub mod CanonicalClauses
pub mod CanonicalSame
