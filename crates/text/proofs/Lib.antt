pub mod BrokenLaws
pub mod TextLaws
pub mod Decimals
pub mod WrittenInput
pub mod Main
