pub mod Fits
pub mod Ends
pub mod Values
