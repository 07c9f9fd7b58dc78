-- Definitions that contracts inside the project and proofs speak of. No outward promise rests on them.
pub mod Decides
pub mod Fill
pub mod Masks
pub mod AllBytes
pub mod Left
