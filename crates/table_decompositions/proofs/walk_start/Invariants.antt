-- `table_decompositions::walk_start`: of the entries before `low` the last is one where a walk may begin.
use Prim.Native.Nat.{◌-◌, ◌≤◌, ◌<◌}
use lib.ListN.{length, get_or}
use Rattle.table_decompositions.specs.Search.{Walks}
use Rattle.table_decompositions.proofs.walk_start.Given as goal

abbrev pub invariant-loop-low : goal.invariant-loop-low
invariant-loop-low l =
    (0 < l.low → Walks l.table l.c (get_or l.index (l.low - 1) 0))
    × (l.low ≤ l.high) × (l.high ≤ length l.index)

abbrev pub decreases-loop-low : goal.decreases-loop-low
decreases-loop-low l = l.high - l.low
