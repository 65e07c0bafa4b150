-- The rings in words: nodes, where they lie, and how they are filled
pub mod Chains
pub mod Nodes
pub mod Bases
pub mod Asides
pub mod Ringed
pub mod Columns
pub mod Sifting
pub mod Filling
