pub mod Counts
pub mod Options
