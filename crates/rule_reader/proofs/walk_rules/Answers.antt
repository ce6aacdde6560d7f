-- `rule_reader::walk_rules`: from each row on the check and the count lead where the whole leads (`Gone`).
use mathlib.Core.Path.{refl}
use mathlib.Core.Option.{none}
use native.Mathlib.Omega.{arith}
use Rattle.rule_reader.specs.Counting.{gone_start, gone_over, gone_wrong, gone_next, gone_nearer, no_table}
use Rattle.rule_reader.proofs.walk_rules.Goals as goal

pub returns-then-not-headed : goal.returns-then-not-headed
returns-then-not-headed c = no_table c.args.table.now (cc)

pub loop-at-init : goal.loop-at-init
loop-at-init c = rw c.start-at.ensures (gone_start c.args.table.now cc)

pub returns-in-Err : goal.returns-in-Err
returns-in-Err c = gone_wrong c.loop-at.invariant (omega arith) _ c.in-Err.ensures _ refl

pub loop-at-smaller : goal.loop-at-smaller
loop-at-smaller c = gone_nearer c.loop-at.invariant none c.in_default.ensures refl _ c.step_from-at.ensures

pub loop-at-preserved : goal.loop-at-preserved
loop-at-preserved c = gone_next c.loop-at.invariant none c.in_default.ensures refl _ c.step_from-at.ensures

pub returns : goal.returns
returns c = gone_over c.loop-at.invariant (omega arith)
