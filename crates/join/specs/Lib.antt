pub mod Join
pub mod inner
