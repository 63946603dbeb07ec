pub mod Forms
pub mod Words
pub mod Fields
pub mod Codes
