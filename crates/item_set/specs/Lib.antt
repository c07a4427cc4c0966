pub mod Slots
pub mod States
pub mod Chains
pub mod Sets
pub mod Compacting
