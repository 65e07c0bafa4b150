pub mod ModelLaws
pub mod Backwards
