pub mod TwoColor
pub mod TwoSides
pub mod Computing
