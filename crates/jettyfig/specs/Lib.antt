pub mod Verdicts
pub mod Memory
pub mod Steps
pub mod Calls
