pub mod Meanings
pub mod Symbols
