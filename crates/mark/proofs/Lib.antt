-- The laws of the scratch mark. Assumes nothing.
pub mod Taking
