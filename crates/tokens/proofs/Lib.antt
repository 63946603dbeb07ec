pub mod Fronts
pub mod Scans
