pub mod Shows
pub mod Whole
