pub mod CodeLaws
pub mod PlaceLaws
pub mod TypeLaws
