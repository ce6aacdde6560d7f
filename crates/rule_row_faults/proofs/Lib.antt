pub mod Tests
pub mod Fields
pub mod Inside
pub mod Chains
