mod Meeting
mod Narrowing
