pub mod Due
pub mod Rooms
