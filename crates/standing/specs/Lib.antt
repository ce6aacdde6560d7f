pub mod Starts
pub mod Begun
pub mod Fallen
pub mod Stands
pub mod Right
