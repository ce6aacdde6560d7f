-- `table_decompositions::fill_index`: what is still to be put leads where the whole leads (`Filled`).
use Prim.Native.Nat.{◌-◌}
use lib.ListN.{length}
use Rattle.table_decompositions.specs.Index.{Filled}
use Rattle.table_decompositions.proofs.fill_index.Given as goal

abbrev pub invariant-loop-at : goal.invariant-loop-at
invariant-loop-at l = Filled l.table l.initial.index l.index l.at l.n

abbrev pub decreases-loop-at : goal.decreases-loop-at
decreases-loop-at l = length l.table - l.at
