pub mod Told
pub mod Packing
pub mod Plain
