pub mod Moments
pub mod Years
