pub mod Runs
pub mod Plain
pub mod Texts
pub mod Strings
