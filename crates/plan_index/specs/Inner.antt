-- Definitions that contracts inside the project and proofs speak of. No outward promise rests on them.
pub mod Codes
pub mod Counting
pub mod Index
pub mod Items
pub mod Unite
pub mod Split
pub mod Meaning
