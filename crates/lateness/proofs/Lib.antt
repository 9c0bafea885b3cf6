pub mod Agree
pub mod Logs
pub mod Examples
