-- both halves on words
pub mod Parities
pub mod Pushes
pub mod HalfWords
pub mod SplitWords
