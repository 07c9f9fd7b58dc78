pub mod Inner
pub mod Unanswered
