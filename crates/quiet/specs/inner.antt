-- What passes between functions and is no statement of the paper (docs/ARCHITECTURE.md, "In each crate").
pub mod Quiet
pub mod Places
