pub mod Laid
pub mod Steps
pub mod Orders
pub mod Ahead
pub mod Nearby
