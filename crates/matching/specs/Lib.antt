pub mod Choosing
pub mod Searched
pub mod Computing
