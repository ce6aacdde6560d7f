-- `table_decompositions::first_wrong`: the first fault from the row at `at` on is the table's.
use Prim.Native.Nat.{ℕ, ◌+◌, ◌-◌}
use mathlib.Core.Path.{refl, sym, ap, ◌∙◌}
use native.Mathlib.Omega.{arith}
use lib.ListN.{drop}
use Rattle.definition.specs.Limits.{most_rows}
use Rattle.definition.specs.Checking.{started, no_header, over, next, spent, wrong}
use Rattle.definition.specs.DecompositionRows.{decomposition_size, decomposition_next, decomposition_right, own_fault}
use Rattle.definition.specs.DecompositionLaws.{decomposition_moves}
use Rattle.table_blocks.specs.Faults.{table_means}
use Rattle.table_decompositions.proofs.first_wrong.Goals as goal
use Rattle.table_decompositions.proofs.first_wrong.Goals.{then-left-eq0-via-then-left-eq0, then-left-eq0-via-else-left-eq0+then-not-is_right}

pub returns-then-not-headed : goal.returns-then-not-headed
unfolding table_means own_fault
returns-then-not-headed c =
    no_header decomposition_size decomposition_next decomposition_right most_rows 0 c.args.table.now (sym c.if-not-headed.true ∙ c.headed.ensures)

pub loop-at-init : goal.loop-at-init
unfolding own_fault
loop-at-init c =
    started decomposition_size decomposition_next decomposition_right most_rows 0 c.args.table.now (sym c.if-not-headed.false ∙ c.headed.ensures)

pub returns-then-left-eq0 : goal.returns-then-left-eq0
unfolding table_means
returns-then-left-eq0 c =
    let l = c.loop-at in
    let b = c.args.table.now in
    elim c.then-left-eq0.branch [
      | then-left-eq0-via-then-left-eq0 w ↦
          spent decomposition_size decomposition_next decomposition_right decomposition_moves b l.at l.left l.low (omega arith) (omega arith) ∙ l.invariant
      | then-left-eq0-via-else-left-eq0+then-not-is_right w ↦
          wrong decomposition_size decomposition_next decomposition_right decomposition_moves b l.at l.left l.low (omega arith)
          (sym w.if-not-is_right.true ∙ w.is_right.ensures) ∙ l.invariant
    ]

pub loop-at-smaller : goal.loop-at-smaller
loop-at-smaller c = omega (arith, decomposition_moves (drop c.loop-at.at c.args.table.now))

pub loop-at-preserved : goal.loop-at-preserved
unfolding decomposition_next
loop-at-preserved c =
    let l = c.loop-at in
    next decomposition_size decomposition_next decomposition_right decomposition_moves c.args.table.now l.at l.left l.low (omega arith) (omega arith)
    (sym c.if-not-is_right.false ∙ c.is_right.ensures)
    (l.at + c.size-at.result) (l.left - 1) _
    (ap (λ (z : ℕ). l.at + z) c.size-at.ensures.0) refl (omega (arith, c.three-low.ensures.0)) ∙ l.invariant

pub returns : goal.returns
unfolding table_means
returns c =
    let l = c.loop-at in
    over decomposition_size decomposition_next decomposition_right decomposition_moves c.args.table.now l.at l.left l.low (omega arith) ∙ l.invariant
