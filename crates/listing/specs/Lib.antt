pub mod Sizes
pub mod Rows
pub mod Strings
pub mod Items
