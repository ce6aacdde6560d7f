-- `rule_table::fill_index`: what is still to be put leads where the whole leads (`Filled`).
use native.Mathlib.Omega.{arith}
use lib.ListN.{drop}
use Rattle.definition.specs.RuleTurns.{rule_moves}
use Rattle.rule_table.specs.Index.{fill_begun, fill_over, fill_full, fill_next}
use Rattle.rule_table.proofs.fill_index.Goals as goal

pub loop-at-init : goal.loop-at-init
loop-at-init c = fill_begun _ _

pub returns-then-index-n : goal.returns-then-index-n
returns-then-index-n c = fill_full c.loop-at.invariant (omega arith)

pub loop-at-smaller : goal.loop-at-smaller
loop-at-smaller c = let l = c in omega (arith, rule_moves (drop l.loop-at.at l.args.rules.now))

pub loop-at-preserved : goal.loop-at-preserved
loop-at-preserved c =
    let l = c in
    rw c.put_offset.ensures (fill_next l.loop-at.invariant (omega arith) _ c.size-at.ensures.0 (omega arith))

pub returns : goal.returns
returns c = fill_over c.loop-at.invariant (omega arith)
