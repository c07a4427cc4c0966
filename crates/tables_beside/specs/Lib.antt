pub mod Listing
pub mod Drawing
pub mod Tallied
