pub mod Falls
pub mod Fallback
pub mod Starts
pub mod SecondPass
