-- `table_decompositions::holds_right`: the rest of the characters decides as the whole does.
use native.Mathlib.Omega.{arith}
use lib.ListN.{drop}
use mathlib.Core.Path.{sym, ◌∙◌}
use Rattle.table_decompositions.proofs.Holding.{hold-none, hold_many, hold-start, hold-over, hold_surrogate, hold-left_out, hold-right}
use Rattle.table_decompositions.proofs.holds_right.Goals as goal
use Rattle.table_decompositions.proofs.holds_right.Goals.{then-n-lt1-via-then-n-lt1, then-n-lt1-via-else-n-lt1+then-n}
use Rattle.table_decompositions.proofs.holds_right.Goals.{then-not-scalar-via-then-not-scalar, then-not-scalar-via-else-not-scalar+then-left_out}

pub returns-then-n-lt1 : goal.returns-then-n-lt1
returns-then-n-lt1 c =
    let s = drop c.args.row c.args.table.now in
    elim c.then-n-lt1.branch [ then-n-lt1-via-then-n-lt1 w ↦ hold-none s (omega arith) | then-n-lt1-via-else-n-lt1+then-n w ↦ hold_many s (omega arith) ]

pub loop-i-init : goal.loop-i-init
loop-i-init c = hold-start (drop c.args.row c.args.table.now) (omega arith) (omega arith)

pub returns-then-not-scalar : goal.returns-then-not-scalar
returns-then-not-scalar c =
    let s = drop c.args.row c.args.table.now in
    elim c.then-not-scalar.branch [
      | then-not-scalar-via-then-not-scalar w ↦
          hold_surrogate s c.loop-i.i (omega arith) _ c.into_at-c.ensures (sym w.if-not-scalar.true ∙ c.scalar.ensures) ∙ c.loop-i.invariant
      | then-not-scalar-via-else-not-scalar+then-left_out w ↦
          hold-left_out s c.loop-i.i (omega arith) _ c.into_at-c.ensures (sym w.if-left_out.true ∙ w.left_out.ensures) ∙ c.loop-i.invariant
    ]

pub loop-i-preserved : goal.loop-i-preserved
loop-i-preserved c =
    hold-right (drop c.args.row c.args.table.now) c.loop-i.i (omega arith) _ c.into_at-c.ensures
    (sym c.if-not-scalar.false ∙ c.scalar.ensures) (sym c.if-left_out.false ∙ c.left_out.ensures)
    ∙ c.loop-i.invariant

pub returns : goal.returns
returns c = hold-over (drop c.args.row c.args.table.now) c.loop-i.i (omega arith) ∙ c.loop-i.invariant
