pub mod Calendar
pub mod Computing
pub mod Examples
