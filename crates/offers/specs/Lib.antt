pub mod Texts
pub mod Parts
