pub mod Once
pub mod Engines
