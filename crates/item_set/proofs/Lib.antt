pub mod Tally
pub mod Links
pub mod Holding
pub mod Granting
pub mod Packing
mod Growing
