pub mod Demands
pub mod ReadOctets
