-- Definitions that contracts inside the project and proofs speak of. No outward promise rests on them.
pub mod Walking
