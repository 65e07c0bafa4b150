pub mod Chains
pub mod Pushing
pub mod StoredMatchings
pub mod Taking
pub mod StoredSlots
