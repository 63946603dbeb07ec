pub mod Laws
pub mod Rooms
pub mod Runs
pub mod Refusals
pub mod Numbers
