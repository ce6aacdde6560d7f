-- `table_decompositions::first_wrong`: the first fault from the row at `at` on is the table's.
use Prim.Native.Nat.{◌-◌}
use mathlib.Core.Path.{◌≡◌}
use lib.ListN.{length}
use Rattle.definition.specs.Checking.{from}
use Rattle.definition.specs.DecompositionRows.{decomposition_size, decomposition_next, decomposition_right, own_fault}
use Rattle.table_decompositions.proofs.first_wrong.Given as goal

abbrev pub invariant-loop-at : goal.invariant-loop-at
invariant-loop-at l =
    from decomposition_size decomposition_next decomposition_right l.at l.left l.low l.table ≡ own_fault l.table

abbrev pub decreases-loop-at : goal.decreases-loop-at
decreases-loop-at l = length l.table - l.at
