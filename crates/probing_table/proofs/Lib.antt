mod Counting
mod Rounds
mod Listing
mod Probing
mod Writing
mod Calls
mod Stored
