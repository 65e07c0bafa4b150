pub mod Model
pub mod Bounds
