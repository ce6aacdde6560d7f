pub mod Plain
pub mod Ways
