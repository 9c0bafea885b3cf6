pub mod Stages
pub mod Rooms
pub mod Cuts
pub mod Chunks
pub mod Counts
pub mod Jobs
pub mod Takes
pub mod Examples
