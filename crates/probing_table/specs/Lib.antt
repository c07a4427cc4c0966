pub mod Marks
pub mod Probed
