pub mod Multigraph
pub mod Regular
pub mod Stored
pub mod Places
pub mod Steps
pub mod Computing
pub mod Examples
