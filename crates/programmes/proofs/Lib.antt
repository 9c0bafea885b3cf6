pub mod Searches
pub mod Entries
pub mod Reading
pub mod Moves
pub mod Moved
pub mod Empty
pub mod Examples
