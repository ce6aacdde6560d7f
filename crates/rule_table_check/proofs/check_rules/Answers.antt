-- `rule_table_check::check_rules`: both halves of the rows, one after the other.
use mathlib.Core.Path.{refl, sym, ◌∙◌}
use native.Mathlib.Omega.{arith}
use Rattle.definition.proofs.RuleTurns.{rules_unheaded}
use Rattle.rule_table_check.specs.Marks.{none_before}
use Rattle.rule_table_check.specs.Walks.{stops, first-half, second-half}
use Rattle.rule_table_check.proofs.check_rules.Goals as goal

pub returns-then-not-headed : goal.returns-then-not-headed
returns-then-not-headed c = rules_unheaded c.args.rules.now (sym c.if-not-headed.true ∙ c.headed.ensures)

pub past_rows-half-requires : goal.past_rows-half-requires
past_rows-half-requires c = none_before _ _

pub returns-then-half-gt0 : goal.returns-then-half-gt0
returns-then-half-gt0 c =
    let r = c.past_rows-half.ensures in
    c.stopped.ensures
    ∙ stops _ _ _ _ _ (first-half _ (sym c.if-not-headed.false ∙ c.headed.ensures) _ _ _ _ _ r.kept refl) (λ z. r.fault (omega arith))

pub returns : goal.returns
returns c =
    let r = c.past_rows-whole.ensures in
    c.stopped-2.ensures
    ∙ stops _ _ _ _ _
    (second-half _ (sym c.if-not-headed.false ∙ c.headed.ensures) _ _ _ _ _ c.past_rows-half.ensures.kept refl _ _ _ _ r.kept)
    r.fault
