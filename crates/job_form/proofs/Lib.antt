pub mod Places
mod Origins
pub mod Forms
