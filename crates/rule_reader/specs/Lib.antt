pub mod Rows
pub mod Here
pub mod Counting
pub mod Laws
