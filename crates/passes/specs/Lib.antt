pub mod Reached
pub mod Turns
pub mod Endings
pub mod Starts
