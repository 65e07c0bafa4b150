pub mod Many
pub mod Tables
pub mod Computing
pub mod Examples
