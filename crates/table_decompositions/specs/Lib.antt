-- The part of a table that is right by itself; its index; looking for a character in it; what an offset says; nested rows; gaps between rows; the next of a line
pub mod Part
pub mod Index
pub mod Search
pub mod Told
pub mod Nesting
pub mod Gaps
pub mod Next
