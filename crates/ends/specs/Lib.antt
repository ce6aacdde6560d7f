pub mod Back
pub mod Ends
pub mod Shown
pub mod Grew
