pub mod Alphabet
pub mod Hex
pub mod Rest
