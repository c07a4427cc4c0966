pub mod Answering
pub mod Celled
pub mod Moving
pub mod Walking
