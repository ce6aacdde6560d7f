pub mod Falls
pub mod Falling
