-- What passes between functions and is no statement of the paper (docs/ARCHITECTURE.md, "In each crate").
pub mod Passed
