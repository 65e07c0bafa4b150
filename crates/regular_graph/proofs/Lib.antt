pub mod Examples
pub mod Pairs
pub mod Padding
pub mod Shortfalls
pub mod StepLaws
pub mod RegularLaws
