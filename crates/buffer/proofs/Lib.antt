pub mod Parted
pub mod Laws
pub mod Values
