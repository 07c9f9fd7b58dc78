-- What the theorem about the promises says. No outward promise rests on it.
pub mod Theorems
