pub mod Cases
pub mod Pairs
pub mod ShrinkCase
