pub mod Numbers
pub mod Boundary
pub mod Sections
pub mod Programmes
pub mod Steps
pub mod Tables
pub mod Lives
pub mod PinnedCalls
