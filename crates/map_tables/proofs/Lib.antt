pub mod Indexing
pub mod Moving
mod Searching
