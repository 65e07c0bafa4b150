pub mod Outcomes
pub mod Demand3
pub mod Frame
pub mod WorkingOut
