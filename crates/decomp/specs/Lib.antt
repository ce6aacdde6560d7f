pub mod First
pub mod Answers
pub mod Rows
pub mod Grown
pub mod Adding
pub mod Behind
pub mod Steps
