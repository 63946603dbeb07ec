pub mod Bits
pub mod GroupDigits
pub mod Letters
