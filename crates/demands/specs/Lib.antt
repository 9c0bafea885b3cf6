pub mod Runs
pub mod Listening
pub mod Judgements
pub mod Pages
pub mod Refused
pub mod Conditions
pub mod Others
pub mod Whole
