pub mod Onward
pub mod Passing
pub mod Between
pub mod Halfway
pub mod Forms
pub mod Turns
