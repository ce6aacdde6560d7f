-- `rule_table_check::past_rows`: each right row leaves the first fault as it was.
use native.Mathlib.Omega.{arith}
use Rattle.rule_table_check.specs.Marks.{mark_at, first-inside}
use Rattle.rule_table_check.specs.Walks.{begun, at_end, at-fault, none_left, row_on}
use Rattle.rule_table_check.proofs.past_rows.Goals as goal

pub loop-turn-init : goal.loop-turn-init
loop-turn-init c = (begun c.requires, omega arith)

pub returns-then-rules-walk : goal.returns-then-rules-walk
returns-then-rules-walk c = at_end _ _ _ _ _ _ _ _ _ c.loop-turn.invariant.0 (omega arith)

pub returns-in_default : goal.returns-in_default
returns-in_default c = at-fault _ _ _ _ _ _ _ _ _ c.loop-turn.invariant.0 c.in_default.ensures

pub three_there-requires : goal.three_there-requires
three_there-requires c =
    let w = c.loop-turn.walk in
    first-inside c.args.rules.now w.at (mark_at c.args.rules.now w.old w.low) (omega arith) c.in-Some.ensures.0

pub loop-turn-preserved : goal.loop-turn-preserved
loop-turn-preserved c = (
  row_on _ _ _ _ _ _ _ _ _ c.loop-turn.invariant.0 (omega arith) (omega arith) _ c.in-Some.ensures.0 c.in-Some.ensures.1
      _ (omega (arith, c.three_there.ensures.0)),
  omega arith,
)

pub returns : goal.returns
returns c = none_left _ _ _ _ _ _ _ _ _ c.loop-turn.invariant.0 (omega arith)
