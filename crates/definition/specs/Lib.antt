-- The definition: document 01 as mathematics, and laws about it. A theorem whose proof fails where a definition is wrong, or that
-- rests on such a one, stands in proofs/, in the module of the same name.
--
-- What the definition is about
pub mod Limits
pub mod Notes
pub mod Refusals
pub mod Texts
pub mod Utf8
pub mod Tables
-- 'Table and output bytes'
pub mod Blocks
pub mod RuleRows
pub mod RuleFields
pub mod RuleFaults
pub mod ClassRows
pub mod VowelRows
pub mod DecompositionRows
pub mod Classes
-- 'Boundaries' and 'Choosing a rule'
pub mod Edges
pub mod Boundaries
pub mod Rules
pub mod Syllables
-- 'Building edges'
pub mod Vowels
pub mod Expansion
pub mod Building
-- 'Path and alternatives'
pub mod Paths
-- document 02's third request: characters that stand for others
pub mod Decomposing
-- 'Table and output bytes' again, and 'Numbers a call returns'
pub mod Listing
pub mod Capacity
pub mod Call
-- 'Sample table and its results', computed
pub mod Compute
pub mod Sample
pub mod SampleForms
pub mod SampleReadings
-- Laws. Loops over bytes, a character or a row at a time
pub mod Utf8Turns
pub mod BlockTurns
pub mod Checking
-- what a right row has passed, and where its parts lie
pub mod Checked
pub mod Places
pub mod There
-- a rule table's faults: a row's fields have none just where the row is right; the walk over rows; where a fault lies
pub mod FieldsRight
pub mod FieldsWithin
pub mod FirstFields
pub mod RuleTurns
pub mod FaultLaws
pub mod RuleNumbers
-- what an accepted call has passed; rows rise; the space is blank
pub mod Accepted
pub mod DecompositionLaws
pub mod Risen
pub mod Ranges
pub mod Blank
-- outside the text the definition reads a space, and the Rust has none: they answer alike
pub mod Outside
pub mod Absent
pub mod Unruled
-- edges are only appended, and 17 for each character at most; what the room refuses
pub mod Growth
-- each edge goes forward within the text, in 606 bytes, with the core that its text has
pub mod Shorts
pub mod Posts
pub mod Covers
pub mod Within
pub mod Letters
pub mod Capitals
-- where the walk back behind O ang ends
pub mod OAng
pub mod VowelBounds
pub mod ExpandBounds
pub mod Cores
pub mod Bounds
-- with characters that stand for others: 17 edges still, and all these as far as the room goes
pub mod Decomposed
-- and it starts at its span's start or up to two characters before
pub mod Near
pub mod Promises
-- the path covers the text
pub mod Cover
-- alternatives only follow the path, in 204 bytes; code 13 is absent where readings are not chosen
pub mod Alternatives
pub mod Alt2
-- how many edges a listing has, and how many bytes
pub mod Counts
pub mod AllEdges
pub mod Sizes
-- edge by edge, whatever is remembered of word starts
pub mod Recalled
pub mod Offers
-- no two listed edges share span and text; where readings are chosen, none is missing
pub mod Once
pub mod Readings
-- UTF-8 there and back; a part of an accepted text is accepted; what is returned, and how every call ends
pub mod Roundtrip
pub mod Rewritten
pub mod Parts
pub mod Returned
pub mod Endings
-- the refusal 19, of a listing that is too large
pub mod TooLarge
-- a table that a former limit accepts
pub mod Former
-- document 02's third request: a table that gives no edges changes nothing
pub mod FormsOff
-- a row's characters give inside a text what they give alone
pub mod InnerCalls
-- and the first added edge of a span is the one that the Rust ranks first, as each ends at its span's end or behind it
pub mod Far
pub mod Ranking
pub mod RankedNeighbours
