pub mod Packed
pub mod Place
