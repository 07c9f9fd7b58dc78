-- Definitions that contracts inside the project and proofs speak of. No outward promise rests on them.
pub mod Verdict
pub mod Below
pub mod Stages
pub mod Tracker
pub mod Pack
pub mod Monitor
pub mod Monitors
pub mod Least
pub mod Agree
