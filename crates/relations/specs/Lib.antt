pub mod Relations
pub mod Inner
