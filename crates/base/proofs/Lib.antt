pub mod Digits
pub mod Texts
pub mod Hex
pub mod Joined
pub mod HexRest
pub mod Base64Rest
