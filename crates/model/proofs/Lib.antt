pub mod Finding
pub mod Sharing
pub mod Inserting
pub mod Keeping
pub mod Displacing
