pub mod Rows
pub mod Parallel
pub mod Whole
pub mod Places
