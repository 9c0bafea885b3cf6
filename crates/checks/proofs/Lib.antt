pub mod Marks
pub mod Turns
pub mod Rooms
pub mod Ladders
