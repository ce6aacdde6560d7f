-- `decomp_line::put_bytes`: what is left to write leads where all lead (`Writing`), and each turn keeps that.
use mathlib.Core.Path.{◌≡◌}
use lib.ListN.{drop}
use Rattle.definition.specs.DecompositionRows.{decomposition_count, decomposition_into}
use Rattle.decomp_line.specs.Rows.{Writing}
use Rattle.decomp_line.proofs.put_bytes.Given as goal

abbrev pub invariant-loop-i : goal.invariant-loop-i
invariant-loop-i l = Writing (decomposition_into (drop l.row l.table)) l.initial.bytes l.bytes l.at l.i × (l.n ≡ decomposition_count (drop l.row l.table))
