pub mod Words
pub mod Entries
pub mod Fronts
pub mod Marks
pub mod Verdicts
