pub mod EdgeColor
pub mod Coloring
pub mod Computing
pub mod Examples
