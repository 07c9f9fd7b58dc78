-- Definitions that contracts inside the project and proofs speak of. No outward promise rests on them.
pub mod Reading
pub mod Sound
pub mod Answer
pub mod Memberships
pub mod Walking
