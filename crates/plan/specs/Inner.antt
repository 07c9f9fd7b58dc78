-- Definitions that contracts inside the project and proofs speak of. No outward promise rests on them.
pub mod Regions
pub mod Entries
pub mod Meets
pub mod Sets
pub mod Named
pub mod Plan
pub mod Put
pub mod Ends
pub mod Leads
