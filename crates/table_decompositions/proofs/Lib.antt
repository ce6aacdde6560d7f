pub mod Holding
pub mod Tags
