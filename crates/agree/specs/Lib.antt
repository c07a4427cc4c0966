pub mod Balances
pub mod Likeness
pub mod Reading
pub mod Tellings
pub mod Texts
pub mod Totals
