pub mod Calls
pub mod Logs
pub mod Runs
pub mod Laws
