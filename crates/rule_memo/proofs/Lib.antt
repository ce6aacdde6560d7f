-- A note by whether a longer source starts with its character
pub mod Notes
