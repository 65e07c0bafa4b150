pub mod Contract
pub mod Adding
pub mod Rows
pub mod Ends
pub mod Representatives
pub mod FromList
