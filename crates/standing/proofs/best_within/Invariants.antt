-- `standing::best_within`: the best so far and those still to come have the best of the stretch.
use mathlib.Core.Path.{◌≡◌}
use mathlib.Core.List.{List}
use Prim.Native.Nat.{ℕ, ◌-◌, ◌*◌}
use lib.ListN.{drop}
use Rattle.base.specs.Lists.{best}
use Rattle.definition.specs.Limits.{slot_bytes}
use Rattle.definition.specs.Edges.{starting}
use Rattle.edge.specs.Slots.{edges_of}
use Rattle.edge.specs.Asked.{best_after}
use Rattle.edge.specs.Best.{best_means, Found}
use Rattle.standing.specs.Right.{longer}
use Rattle.standing.proofs.best_within.Given as goal

abbrev pub invariant-loop-number : goal.invariant-loop-number
invariant-loop-number l =
    ((room : List ℕ) → best_after longer (best_means room l.slots l.best) (starting (edges_of room (l.number-end - l.number) (drop (l.number * slot_bytes) l.slots)) l.p)
    ≡ best longer (starting (edges_of room (l.fn.within.end - l.fn.within.first) (drop (l.fn.within.first * slot_bytes) l.slots)) l.p))
    × Found l.number-end l.best
