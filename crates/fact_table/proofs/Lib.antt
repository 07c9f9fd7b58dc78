pub mod CollectLaws
pub mod UniteLaws
pub mod TableLaws
