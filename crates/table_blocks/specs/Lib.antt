pub mod Faults
pub mod Held
