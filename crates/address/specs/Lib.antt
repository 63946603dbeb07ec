pub mod Zeros
pub mod Part
pub mod Address
