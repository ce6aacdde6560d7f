pub mod Turns
pub mod All
pub mod Threes
pub mod Texts
pub mod Fields
