pub mod Cores
pub mod Sync
pub mod Steps
pub mod Sound
pub mod Calls
