pub mod Passes
pub mod Both
