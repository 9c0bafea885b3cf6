pub mod Lent
pub mod Replies
pub mod inner
