mod Counted
mod Equality
mod Likely
mod Numbers
mod Words
mod Written
