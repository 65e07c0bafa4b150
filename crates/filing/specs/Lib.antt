pub mod Filed
pub mod Buffers
pub mod Computing
pub mod Examples
