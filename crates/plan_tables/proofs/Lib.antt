pub mod FromFn
pub mod Gathering
pub mod SoundLaws
pub mod MeaningLaws
pub mod GroupLaws
pub mod Cases
