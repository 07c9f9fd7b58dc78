-- Named inputs, written out, and what the theorems about them say. No outward promise rests on them.
pub mod Goals
pub mod Wrong
pub mod Clauses
pub mod Weir
pub mod Called
pub mod Own
pub mod Bytes
pub mod StepsPolicies
pub mod Steps
pub mod StepsClauses
pub mod RolePolicies
pub mod Roles
pub mod JoinPolicies
pub mod Join
pub mod JoinClauses
