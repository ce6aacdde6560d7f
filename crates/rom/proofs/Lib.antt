-- A text read backwards, and what is written to a romanization
pub mod Backwards
pub mod Writes
pub mod Capitals
-- What is left of lent bytes, their first and their last
pub mod Walks
-- the letters of a set, and none past z
pub mod Past
-- what is written a turn at a time
pub mod Turns
