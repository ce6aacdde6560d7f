-- `table_decompositions::is_nested`: the rest of the characters decides as the whole does.
use mathlib.Core.Path.{◌∙◌}
use native.Mathlib.Omega.{arith}
use lib.ListN.{drop}
use Rattle.definition.specs.DecompositionRows.{decompositions_of, has_row}
use Rattle.table_decompositions.specs.Told.{has-none, has_one}
use Rattle.table_decompositions.proofs.Holding.{nested_over, nested_here, nested_next}
use Rattle.table_decompositions.proofs.is_nested.Goals as goal

pub returns-then-row_of-ne0 : goal.returns-then-row_of-ne0
returns-then-row_of-ne0 c =
    let l = c in
    nested_here ((drop l.args.row ((l.args.table.now)))) l.loop-i.i (omega arith) _ c.into_at-c.ensures ((has_row (decompositions_of ((l.args.table.now)))))
    (has_one ((l.args.table.now)) _ _ c.row_of.ensures (omega arith)) ∙ l.loop-i.invariant

pub loop-i-preserved : goal.loop-i-preserved
loop-i-preserved c =
    let l = c in
    nested_next ((drop l.args.row ((l.args.table.now)))) l.loop-i.i (omega arith) _ c.into_at-c.ensures ((has_row (decompositions_of ((l.args.table.now)))))
    (has-none ((l.args.table.now)) _ _ c.row_of.ensures (omega arith)) ∙ l.loop-i.invariant

pub returns : goal.returns
returns c = let l = c in nested_over ((drop l.args.row ((l.args.table.now)))) l.loop-i.i ((has_row (decompositions_of ((l.args.table.now))))) (omega arith) ∙ l.loop-i.invariant
