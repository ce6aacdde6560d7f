pub mod Tails
pub mod Held
