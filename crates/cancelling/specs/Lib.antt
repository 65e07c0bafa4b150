pub mod Cancelling
pub mod Examples
