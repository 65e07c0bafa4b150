pub mod Matching
pub mod Perfect
pub mod Computing
pub mod Examples
