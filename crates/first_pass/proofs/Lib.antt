pub mod Spans
pub mod Rising
pub mod Passes
