-- Named inputs, written out, and what the theorems about them say. No outward promise rests on them.
pub mod Gate
pub mod Readers
pub mod RoleRules
pub mod Roles
