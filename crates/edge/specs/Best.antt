-- The slot of an edge that was looked for, as the definition's edge.
use Rattle.std.specs.Prelude.{ℕ, ◌*◌, ◌<◌, List, ◌≡◌, length, drop, Some, None, Option as Answered}
use Rattle.std.proofs.Math.Option.{Option, none, some}
use Rattle.std.proofs.Common.{sym, subst}
use Rattle.definition.specs.Limits.{slot_bytes}
use Rattle.definition.specs.Edges.{Edge}
use Rattle.edge.specs.Slots.{edge_of}
use Rattle.edge.specs.Counted.{all-at}
use Rattle.edge.specs.Stored.{Slot}
use Rattle.edge.specs.Asked.{Readable}

-- the slot where there is one
abbrev pub BestEdge : Type 0
BestEdge = Answered ℕ

abbrev pub best_means : List ℕ → List ℕ → BestEdge → Option Edge
best_means room slots (Some o) = some (edge_of room (drop o slots))
best_means room slots None = none

-- it is one of the first `count` slots
abbrev pub Found : ℕ → BestEdge → Type 0
Found count (Some o) = (i : ℕ) × (i < count) × (o ≡ i * slot_bytes)
Found count None = Unit {0}

-- and so can be read
pub found-slot : (slots room : List ℕ) (count o : ℕ) → Readable slots room count → Found count (Some o) → Slot room (length room) (drop o slots)
found-slot slots room count o r f =
    subst (λ k. Slot room (length room) (drop k slots)) (sym f.2)
    (all-at slot_bytes (Slot room (length room)) count f.0 slots f.1 r)
