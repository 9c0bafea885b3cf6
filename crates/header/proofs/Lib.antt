pub mod Payload
pub mod Examples
