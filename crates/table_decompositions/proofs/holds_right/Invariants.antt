-- `table_decompositions::holds_right`: the rest of the characters decides as the whole does.
use lib.ListN.{drop}
use mathlib.Core.Path.{◌≡◌}
use Rattle.base.specs.Lists.{all}
use Rattle.definition.specs.DecompositionRows.{decomposition_into, into_right}
use Rattle.table_decompositions.proofs.Holding.{held_right}
use Rattle.table_decompositions.proofs.holds_right.Given as goal

abbrev pub invariant-loop-i : goal.invariant-loop-i
invariant-loop-i l = all held_right (drop l.i (decomposition_into (drop l.row l.table))) ≡ into_right (drop l.row l.table)
