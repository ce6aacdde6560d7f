-- `table_decompositions::is_nested`: the rest of the characters decides as the whole does.
use mathlib.Core.Path.{◌≡◌}
use lib.ListN.{drop}
use Rattle.base.specs.Lists.{any}
use Rattle.definition.specs.DecompositionRows.{decomposition_into, decompositions_of, has_row}
use Rattle.table_decompositions.proofs.is_nested.Given as goal

abbrev pub invariant-loop-i : goal.invariant-loop-i
invariant-loop-i l =
    any (has_row (decompositions_of l.table)) (drop l.i (decomposition_into (drop l.row l.table)))
    ≡ any (has_row (decompositions_of l.table)) (decomposition_into (drop l.row l.table))
