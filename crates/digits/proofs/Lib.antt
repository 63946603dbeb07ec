pub mod Decimal
pub mod Bits
