pub mod CountingLaws
pub mod TableLaws
pub mod RunLaws
pub mod ChainRunLaws
pub mod RunImageLaws
pub mod ImageWriteLaws
