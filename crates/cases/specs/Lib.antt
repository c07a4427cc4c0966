pub mod Called
pub mod Texts
