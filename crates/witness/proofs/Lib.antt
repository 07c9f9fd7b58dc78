pub mod StepLaws
pub mod PathLaws
