mod Shrinking
mod Removing
