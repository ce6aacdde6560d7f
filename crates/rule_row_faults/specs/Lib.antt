pub mod Kinds
pub mod Row
