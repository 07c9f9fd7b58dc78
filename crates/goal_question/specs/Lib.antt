pub mod GoalQuestion
pub mod Inner
