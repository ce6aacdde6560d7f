pub mod Rom
pub mod Sets
