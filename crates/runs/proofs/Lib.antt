mod Showing
mod Noting
