pub mod Examples
pub mod Walks
pub mod NeighbourLaws
pub mod Colouring
pub mod Search
pub mod Starts
pub mod TwoColorLaws
pub mod Turns
