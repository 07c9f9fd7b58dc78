-- Definitions that contracts inside the project and proofs speak of. No outward promise rests on them.
pub mod Graph
pub mod State
pub mod Visits
pub mod Nodes
pub mod Model
pub mod Tasks
pub mod Watching
pub mod Arrivals
pub mod Blocks
pub mod Starts
pub mod Seeds
