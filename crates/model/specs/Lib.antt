pub mod Answers
pub mod Model
pub mod Shrinking
pub mod Told
