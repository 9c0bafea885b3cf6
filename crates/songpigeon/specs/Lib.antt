pub mod Version
pub mod Fields
pub mod Descriptors
pub mod Lent
