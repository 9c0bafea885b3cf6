pub mod Rooms
pub mod Doing
