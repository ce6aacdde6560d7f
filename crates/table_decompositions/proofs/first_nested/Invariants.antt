-- `table_decompositions::first_nested`: the first such row from `at` on is the table's (`Nesting`).
use Prim.Native.Nat.{◌-◌}
use lib.ListN.{length}
use Rattle.table_decompositions.specs.Nesting.{Nesting}
use Rattle.table_decompositions.proofs.first_nested.Given as goal

abbrev pub invariant-loop-at : goal.invariant-loop-at
invariant-loop-at l = Nesting l.table l.at

abbrev pub decreases-loop-at : goal.decreases-loop-at
decreases-loop-at l = length l.table - l.at
