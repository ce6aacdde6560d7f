-- What stands in lent bytes after a read into their end.
pub mod Filled
