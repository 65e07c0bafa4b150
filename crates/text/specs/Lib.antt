pub mod Text
pub mod Waits
pub mod Broken
pub mod Computing
pub mod Examples
