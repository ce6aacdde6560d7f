pub mod Spans
pub mod Ways
