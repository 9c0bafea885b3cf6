pub mod Rooms
pub mod Section
pub mod Building
pub mod Outcomes
pub mod inner
