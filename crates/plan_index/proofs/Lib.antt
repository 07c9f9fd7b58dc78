pub mod UniteLaws
pub mod SplitLaws
pub mod MeaningLaws
pub mod CountingLaws
pub mod RecordLaws
pub mod ExtractLaws
