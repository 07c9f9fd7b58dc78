-- Definitions that contracts inside the project and proofs speak of. No outward promise rests on them.
pub mod Nearest
pub mod Steps
pub mod Sweeps
pub mod Pairs
