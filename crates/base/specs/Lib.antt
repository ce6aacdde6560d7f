-- Choice; what both sides of a test tell
pub mod Pick
pub mod Bools
-- Lists: small functions, what holds of every element, laws
pub mod Lists
pub mod ListLaws
pub mod Alls
-- A loop as its turn
pub mod Turn
-- Bytes: big-endian numbers, bits, rows of a table
pub mod Big
pub mod Bits
pub mod Rows
-- What is written: a copy, and a part that was lent
pub mod Copies
pub mod Loans
