pub mod Examples
pub mod Accepted
pub mod Moves
pub mod Known
pub mod Own
pub mod PinnedSteps
pub mod PinnedRefusals
