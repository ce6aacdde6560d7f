pub mod Told
pub mod Marks
pub mod Plain
pub mod Walks
