-- `rule_row_faults::read_fields`: reading what is left leads where the whole leads (`Left`), and each turn keeps that.
use mathlib.Core.Path.{sym, ap, ◌∙◌}
use Prim.Native.Nat.{◌+◌}
use native.Mathlib.Omega.{arith}
use Rattle.definition.specs.RuleFields.{wrong}
use Rattle.rule_row_faults.proofs.Fields.{begun, no_more, past, not_right, right}
use Rattle.rule_row_faults.proofs.read_fields.Goals as goal

pub loop-turn-init : goal.loop-turn-init
loop-turn-init c = begun c.requires.1

pub returns-then-z-at : goal.returns-then-z-at
returns-then-z-at c = past c.loop-turn.invariant (omega arith) (omega (arith, c.kind_size-size.ensures.0))

pub returns-then-not-kind_right : goal.returns-then-not-kind_right
returns-then-not-kind_right c =
    ap (λ k. wrong k c.loop-turn.at) c.kind_fault-fault.ensures
    ∙ not_right c.loop-turn.invariant (omega arith) (omega (arith, c.kind_size-size.ensures.0))
    (sym c.kind_right.ensures ∙ c.if-not-kind_right.true)

pub loop-turn-preserved : goal.loop-turn-preserved
loop-turn-preserved c =
    let e = c.kind_size-size.ensures.0 in
    right c.loop-turn.invariant (omega arith) (omega (arith, e))
    (sym c.kind_right.ensures ∙ c.if-not-kind_right.false) _ (ap (λ i. c.loop-turn.at + i) e)

pub returns : goal.returns
returns c = no_more c.loop-turn.invariant (omega arith)
