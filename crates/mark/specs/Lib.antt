-- The definitions that the contracts of the scratch mark cite. Assumes nothing.
pub mod Taking
