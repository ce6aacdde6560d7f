-- What places are after an edge was added, and after one that was there
pub mod Added
