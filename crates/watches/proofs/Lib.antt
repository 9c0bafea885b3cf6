pub mod Late
pub mod Examples
