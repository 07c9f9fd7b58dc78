-- What the theorems about the canonical image say. No outward promise rests on it.
pub mod Theorems
