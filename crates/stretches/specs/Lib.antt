-- Demand 3. A theorem whose proof fails where a definition is wrong, or that rests on such a one, stands in proofs/, in the module
-- of the same name.
--
-- The statement
pub mod Demand
-- what its premises give
pub mod Given
-- one computation on the whole text, one on the stretch
pub mod Windows
pub mod Texts
pub mod Boundaries
pub mod Rules
pub mod Syllables
pub mod Vowels
pub mod Works
pub mod Thai
pub mod Expansion
pub mod Building
-- edges, states and passes
pub mod Edges
pub mod Walks
pub mod States
pub mod Elsewhere
-- the lists
pub mod Path
pub mod Alternatives
pub mod Order
pub mod Spaces
-- what the theorem takes, and a use of it
pub mod Proved
pub mod Applied
-- What a driver sees, from the line's call to its words' calls: the statement
pub mod Driver
-- the path along words and spaces
pub mod Abutting
pub mod Strings
-- bytes cut at spaces; slots and room
pub mod Cuts
pub mod Rooms
-- what the theorem takes, and uses of it
pub mod Driven
pub mod Labels
pub mod OAngLabels
