-- Definitions that contracts inside the project and proofs speak of. No outward promise rests on them.
pub mod Reading
pub mod Answer
pub mod Counting
pub mod Sizes
pub mod Writable
pub mod Kinds
