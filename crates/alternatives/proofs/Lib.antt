pub mod Turns
pub mod Edges
