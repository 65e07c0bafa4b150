pub mod Held
pub mod Showing
pub mod Stepping
pub mod Backwards
pub mod Filling
pub mod Beginning
pub mod Finishing
pub mod Passing
