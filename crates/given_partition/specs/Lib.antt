pub mod GivenPartition
pub mod Steps
pub mod Computing
