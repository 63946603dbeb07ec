pub mod Buckets
pub mod Symbols
pub mod Stored
