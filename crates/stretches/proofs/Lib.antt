-- Theorems about stretches whose proofs fail where a definition is wrong, or that rest on such a one: the main ones are `demand` in
-- Proved, and `strings` and `driven` in Strings and Driven. Each module but Lattice goes with the one of its name in specs/, whose
-- Lib has the reading order; Lattice goes before Path there.
pub mod Alternatives
pub mod Applied
pub mod Building
pub mod Cuts
pub mod Driven
pub mod Elsewhere
pub mod Expansion
pub mod Given
pub mod Labels
pub mod Lattice
pub mod OAngLabels
pub mod Order
pub mod Path
pub mod Proved
pub mod Spaces
pub mod Strings
pub mod Thai
