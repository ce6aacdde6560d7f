pub mod Order
pub mod Sorted
pub mod Doors
pub mod Index
pub mod Seek
pub mod Longer
pub mod Entries
pub mod Starts
