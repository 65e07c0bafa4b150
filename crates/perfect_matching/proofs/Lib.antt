pub mod Powers
pub mod Diagonal
pub mod Searching
pub mod Halving
pub mod MatchingLaws
