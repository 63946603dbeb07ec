mod Faults
pub mod Lengths
pub mod Law
