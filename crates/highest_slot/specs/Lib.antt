pub mod Slots
pub mod Computing
