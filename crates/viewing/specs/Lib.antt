pub mod Viewer
pub mod Told
pub mod Computing
pub mod Examples
