pub mod Evening
pub mod Computing
