mod Fields
mod Texts
pub mod Forms
