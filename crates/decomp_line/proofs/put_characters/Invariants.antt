-- `decomp_line::put_characters`: what is left to put leads where all lead (`Putting`), and each turn keeps that.
use lib.ListN.{drop}
use Rattle.definition.specs.DecompositionRows.{decomposition_into}
use Rattle.decomp_line.specs.Rows.{Putting}
use Rattle.decomp_line.proofs.put_characters.Given as goal

abbrev pub invariant-loop-i : goal.invariant-loop-i
invariant-loop-i l = Putting (decomposition_into (drop l.row l.table)) l.initial.chars l.chars l.i
