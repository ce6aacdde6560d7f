pub mod VowelTests
pub mod VowelWalk
