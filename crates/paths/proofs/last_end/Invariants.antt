-- `paths::last_end`: the last end so far, and those still to come, have the last end of all.
use Prim.Native.Nat.{ℕ, ◌-◌, ◌*◌}
use mathlib.Core.List.{List}
use mathlib.Core.Path.{◌≡◌}
use lib.ListN.{drop}
use Rattle.definition.specs.Limits.{slot_bytes}
use Rattle.edge.specs.Slots.{edges_of}
use Rattle.paths.specs.Orders.{last_end}
use Rattle.paths.proofs.last_end.Given as goal

abbrev pub invariant-loop-number : goal.invariant-loop-number
invariant-loop-number l =
    (room : List ℕ)
    → last_end l.p l.bound l.best (edges_of room (l.count - l.number) (drop (l.number * slot_bytes) l.slots)) ≡ last_end l.p l.bound l.p (edges_of room l.count l.slots)
