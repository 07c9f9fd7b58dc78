pub mod Walk
pub mod KindLaws
pub mod Walking
pub mod Searches
