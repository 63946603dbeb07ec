pub mod Letters
pub mod Slices
pub mod Numbers
pub mod Blocks
pub mod Lines
pub mod Integers
pub mod Pieces
