pub mod Turns
pub mod Parts
pub mod Calls
pub mod Lents
