pub mod Alikes
pub mod Unslotted
