pub mod Gaps
pub mod Logs
