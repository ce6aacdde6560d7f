pub mod Rises
pub mod Spelling
pub mod Fresh
pub mod FirstPass
