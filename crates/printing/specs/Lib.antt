pub mod Printing
pub mod Placed
pub mod Computing
pub mod Examples
