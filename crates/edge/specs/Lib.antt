pub mod Slots
pub mod Counted
pub mod Stored
pub mod Answers
pub mod Adding
pub mod Fitting
pub mod Asked
pub mod Best
