pub mod Continuity
