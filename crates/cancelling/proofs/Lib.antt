pub mod KeptLaws
pub mod Cancelled
pub mod Positions
