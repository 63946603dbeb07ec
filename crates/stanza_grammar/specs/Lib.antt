pub mod Grammar
pub mod Parts
