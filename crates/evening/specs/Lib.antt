pub mod Contract
pub mod Sides
pub mod Filling
