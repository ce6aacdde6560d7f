pub mod Puts
pub mod Parts
pub mod Library
