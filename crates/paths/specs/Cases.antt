-- Named inputs, written out, and what the theorems about them say. No outward promise rests on them.
pub mod Drawn
pub mod Drawings
