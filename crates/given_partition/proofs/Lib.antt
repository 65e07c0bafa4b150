pub mod GivenPartitionLaws
pub mod Sizes
pub mod Preparing
pub mod Giving
