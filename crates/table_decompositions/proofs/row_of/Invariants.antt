-- `table_decompositions::row_of`: the row is the one at which a walk stands, or a later one (`Begun`).
use Prim.Native.Nat.{◌-◌}
use lib.ListN.{length}
use Rattle.table_decompositions.specs.Search.{Begun}
use Rattle.table_decompositions.proofs.row_of.Given as goal

abbrev pub invariant-loop-at : goal.invariant-loop-at
invariant-loop-at l = Begun l.table l.c l.at

abbrev pub decreases-loop-at : goal.decreases-loop-at
decreases-loop-at l = length l.table - l.at
