-- the code on lists of words: what each function does, and which places it asks for
pub mod Model
pub mod Bounds
