-- What the answers say; what a list is when characters were put into it
pub mod Read
pub mod Puts
pub mod Lines
-- Continuation bytes; bytes that are those of a text
pub mod Sixes
pub mod Encodings
pub mod Beginnings
