pub mod Noting
pub mod Keeps
