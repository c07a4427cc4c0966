pub mod Comparing
pub mod Kinds
