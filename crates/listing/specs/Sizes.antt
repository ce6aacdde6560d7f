-- How many bytes of an output a row takes at most, and some rows; and up to where an output can be counted. All of this
-- only keeps a sum of lengths within a machine's number.
use Rattle.std.specs.Prelude.{ℕ, ◌+◌, ◌-◌, ◌*◌, ◌<◌}
use Rattle.definition.specs.Listing.{row_head_bytes}
use Rattle.definition.specs.Limits.{most_characters, most_edges}
use Rattle.edge.specs.Slots.{two_bytes}

-- of a row: a text's length has two bytes
abbrev pub row_most : ℕ
row_most = row_head_bytes + (two_bytes - 1)

-- of a row for each edge of a lattice; of these for each end that an edge can have; and of a start's, whose fallback is
-- a row more
abbrev pub rows_most : ℕ
rows_most = most_edges * most_characters * row_most

abbrev pub ends_most : ℕ
ends_most = most_characters * rows_most

abbrev pub start_most : ℕ
start_most = ends_most + row_most

-- of a path, with an edge for each character; of all starts
abbrev pub path_most : ℕ
path_most = most_characters * row_most

abbrev pub starts_most : ℕ
starts_most = most_characters * start_most

-- half of what a machine's number holds
abbrev pub countable : ℕ
countable = 9223372036854775808

-- behind `at` so many bytes more can be counted
abbrev pub Countable : ℕ → ℕ → Type 0
Countable at more = at + more < countable
