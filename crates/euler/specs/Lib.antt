-- what document 01 defines, what the laws say of it, and worked examples
pub mod Euler
pub mod Split
pub mod Halved
pub mod Computing
pub mod Examples
-- what the public call of `splitting` asks and gives
pub mod Room
-- how a half is written
pub mod Entries
