pub mod Rowing
pub mod Decomps
