pub mod Planning
pub mod Demand3
pub mod FifteenLists
pub mod Examples
pub mod Computing
pub mod LowestFree
pub mod WorkedExample
pub mod Steps
