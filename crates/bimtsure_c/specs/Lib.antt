pub mod Planned
pub mod Viewed
