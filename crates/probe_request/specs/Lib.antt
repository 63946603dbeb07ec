pub mod Request
pub mod Words
