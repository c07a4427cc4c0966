pub mod Contents
pub mod Refusals
pub mod Stored
