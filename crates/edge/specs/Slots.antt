-- An edge in a slot of 12 bytes, big-endian: start 2, end 2, the offset of its text in the text room 4, that text's
-- length 2, annotation 1, core length 1. The text stands in the room as UTF-8.
use Rattle.std.specs.Prelude.{ℕ, List, [], ◌∷◌, ◌++◌, get_or, take, drop}
use Rattle.base.specs.Big.{be2, be4, two, four}
use Rattle.base.specs.Rows.{counted}
use Rattle.definition.specs.Limits.{slot_bytes}
use Rattle.definition.specs.Utf8.{decoded}
use Rattle.definition.specs.Edges.{Edge}
use Rattle.edge.specs.declared.Numbers.{Numbers}

-- numbers of two bytes, and of four, are below these
abbrev pub two_bytes : ℕ
two_bytes = 65536

abbrev pub four_bytes : ℕ
four_bytes = 4294967296

-- `s` are the bytes from a slot on
abbrev pub from_of : List ℕ → ℕ
from_of s = be2 s 0

abbrev pub to_of : List ℕ → ℕ
to_of s = be2 s 2

abbrev pub offset_of : List ℕ → ℕ
offset_of s = be4 s 4

abbrev pub length_of : List ℕ → ℕ
length_of s = be2 s 8

abbrev pub bytes_of : List ℕ → List ℕ → List ℕ
bytes_of room s = take (length_of s) (drop (offset_of s) room)

-- an edge by its numbers and its text's bytes
unfoldable pub edge_by : Numbers → List ℕ → Edge
edge_by e w = record { from = e.from; to = e.to; note = e.note; core = e.core; text = decoded w }

unfoldable pub numbers_of : List ℕ → Numbers
numbers_of s = record { from = from_of s; to = to_of s; note = get_or s 10 0; core = get_or s 11 0 }

abbrev pub edge_of : List ℕ → List ℕ → Edge
edge_of room s = edge_by (numbers_of s) (bytes_of room s)

-- the edges of the first `n` slots, in adding order
abbrev pub edges_of : List ℕ → ℕ → List ℕ → List Edge
edges_of room n slots = counted (edge_of room) slot_bytes n slots

-- the bytes of a slot
unfoldable pub slot_of : Numbers → ℕ → ℕ → List ℕ
slot_of e offset len =
    two e.from ++ (two e.to ++ (four offset ++ (two len ++ (e.note ∷ e.core ∷ []))))
