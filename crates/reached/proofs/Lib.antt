pub mod Places
pub mod Built
pub mod Listing
pub mod Moving
pub mod Kept
pub mod Never
pub mod Most
