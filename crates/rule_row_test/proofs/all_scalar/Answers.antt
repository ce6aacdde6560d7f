-- `rule_row_test::all_scalar`: what is left from `at` on says what the whole does.
use mathlib.Core.Path.{sym, ap, ◌∙◌}
use native.Mathlib.Omega.{arith}
use Rattle.definition.specs.Utf8.{scalar}
use Rattle.definition.specs.RuleRows.{three_at}
use Rattle.rule_row_test.specs.Threes.{threes-over, threes-other, threes-next}
use Rattle.rule_row_test.proofs.all_scalar.Goals as goal

pub loop-at-preserved : goal.loop-at-preserved
unfolding three_at
loop-at-preserved c =
    let l = c in
    let a = l.args in (
      omega arith,
      threes-next three_at scalar ((l.args.s.now)) l.loop-at.at a.to (omega arith) l.loop-at.invariant.0
          (sym c.if-not-scalar.false ∙ c.scalar.ensures ∙ ap scalar c.three_there.ensures.0)
          ∙ l.loop-at.invariant.1,
    )

pub returns-then-not-scalar : goal.returns-then-not-scalar
unfolding three_at
returns-then-not-scalar c =
    let l = c in
    let a = l.args in
    threes-other three_at scalar ((l.args.s.now)) l.loop-at.at a.to (omega arith) l.loop-at.invariant.0
    (sym c.if-not-scalar.true ∙ c.scalar.ensures ∙ ap scalar c.three_there.ensures.0)
    ∙ l.loop-at.invariant.1

pub returns : goal.returns
returns c =
    let l = c in
    threes-over three_at scalar ((l.args.s.now)) l.loop-at.at l.args.to (omega arith) ∙ l.loop-at.invariant.1
