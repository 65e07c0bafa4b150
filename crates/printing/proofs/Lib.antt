pub mod Lengths
pub mod PlacingSteps
