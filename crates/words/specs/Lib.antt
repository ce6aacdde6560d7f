pub mod Given
pub mod Choosing
pub mod Did
pub mod Characters
pub mod Found
pub mod Spans
pub mod Looks
pub mod Goes
