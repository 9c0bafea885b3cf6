pub mod Joining
pub mod Examples
