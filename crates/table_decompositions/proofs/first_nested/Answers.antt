-- `table_decompositions::first_nested`: the first such row from `at` on is the table's (`Nesting`).
use mathlib.Core.Path.{sym, ◌∙◌}
use native.Mathlib.Omega.{arith}
use lib.ListN.{drop}
use Rattle.definition.specs.DecompositionLaws.{decomposition_moves}
use Rattle.table_blocks.specs.Faults.{table_means}
use Rattle.table_decompositions.specs.Nesting.{nesting_first, nesting_over, nesting_here, nesting_next}
use Rattle.table_decompositions.proofs.first_nested.Goals as goal

pub loop-at-init : goal.loop-at-init
loop-at-init c = let s = c in nesting_first s.args.table.now s.requires.rows

pub returns-then-is_nested : goal.returns-then-is_nested
unfolding table_means
returns-then-is_nested c =
    let l = c in
    nesting_here ((l.args.table.now)) l.loop-at.at l.loop-at.invariant (omega arith) (sym c.if-is_nested.true ∙ c.is_nested.ensures)

pub loop-at-smaller : goal.loop-at-smaller
loop-at-smaller c = let l = c in omega (arith, decomposition_moves (drop l.loop-at.at ((l.args.table.now))))

pub loop-at-preserved : goal.loop-at-preserved
loop-at-preserved c =
    let l = c in
    nesting_next ((l.args.table.now)) l.loop-at.at l.loop-at.invariant (omega arith) (sym c.if-is_nested.false ∙ c.is_nested.ensures) _ c.size-at.ensures.0

pub returns : goal.returns
unfolding table_means
returns c =
    let l = c in nesting_over ((l.args.table.now)) l.loop-at.at l.loop-at.invariant (omega arith)
