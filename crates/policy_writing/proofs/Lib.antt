pub mod PutLaws
pub mod ImageLaws
pub mod WritingLaws
