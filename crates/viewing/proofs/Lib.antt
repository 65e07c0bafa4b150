pub mod ViewerLaws
pub mod ViewerSteps
pub mod Searching
