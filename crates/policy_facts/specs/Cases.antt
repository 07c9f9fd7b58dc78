-- What the theorems about the canonical policy say. No outward promise rests on it.
pub mod Same
