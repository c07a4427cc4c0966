pub mod Inside
pub mod Rooms
