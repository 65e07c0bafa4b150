pub mod Reading
pub mod Broken
pub mod Told
pub mod Computing
pub mod Examples
