pub mod PlacedLaws
pub mod WriteLaws
pub mod AskedLaws
