pub mod Coins
pub mod Comparing
pub mod Currencies
pub mod Starter
