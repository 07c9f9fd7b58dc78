pub mod FieldLaws
pub mod LayoutLaws
pub mod SizeLaws
pub mod EncodingLaws
pub mod Cases
pub mod KindRange
