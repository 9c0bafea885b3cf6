pub mod Apart
pub mod Actions
pub mod Kept
pub mod Sections
pub mod Payloads
pub mod Soundness
