pub mod Moments
pub mod Days
