pub mod Tables
pub mod Late
