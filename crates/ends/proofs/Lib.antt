-- The cases of the three forms, and the form that is made
pub mod Cases
pub mod Shaping
