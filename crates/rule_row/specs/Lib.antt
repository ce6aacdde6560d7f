pub mod Sizes
pub mod Rise
pub mod Others
