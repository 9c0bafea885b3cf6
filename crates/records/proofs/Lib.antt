pub mod ReadBack
pub mod Rooms
