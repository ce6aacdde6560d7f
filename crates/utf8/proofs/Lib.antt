-- A surrogate, and what a byte counts that continues no character
pub mod Values
pub mod Firsts
-- The first sequence from a place on
pub mod Sequences
-- The loops, and the answers
pub mod Walks
pub mod Answers
