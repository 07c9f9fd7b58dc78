pub mod ShapeLaws
pub mod Pass
