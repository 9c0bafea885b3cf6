pub mod Sets
pub mod Examples
