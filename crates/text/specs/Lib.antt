pub mod Plain
pub mod Text
