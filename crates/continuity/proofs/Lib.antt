pub mod Examples
pub mod NoAnswerChanged
