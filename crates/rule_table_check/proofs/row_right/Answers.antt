-- `rule_table_check::row_right`: its fields, then its order, by the first character or by all.
use native.Mathlib.Omega.{arith}
use mathlib.Core.Path.{sym, ap, ◌∙◌}
use lib.ListN.{drop}
use borrow.Author.Tests.{le-leb}
use Rattle.definition.specs.RuleRows.{rule_source, rises}
use Rattle.rule_table_check.specs.Marks.{mark_at, mark-is, fields-wrong, by-source, by_first}
use Rattle.rule_table_check.proofs.row_right.Goals as goal

pub returns-then-not-fields_right : goal.returns-then-not-fields_right
returns-then-not-fields_right c =
    let a = c.args in
    fields-wrong (mark_at a.rules.now a.old a.low) (drop a.row a.rules.now) _ c.fields_right.ensures c.if-not-fields_right.true

pub returns-then-low-three : goal.returns-then-low-three
returns-then-low-three c =
    let a = c.args in
    le-leb _ _ (omega arith)
    ∙ by_first (mark_at a.rules.now a.old a.low) (drop a.row a.rules.now) _ c.fields_right.ensures
    c.if-not-fields_right.false a.low _ c.requires.1 c.three.ensures.0 (omega arith)

pub returns-else-low-three : goal.returns-else-low-three
returns-else-low-three c =
    let a = c.args in
    let s = drop a.row a.rules.now in
    by-source (mark_at a.rules.now a.old a.low) s _ c.fields_right.ensures
    c.if-not-fields_right.false _
    (c.sources_rise.ensures ∙ ap (λ m. rises m (rule_source s)) (sym (mark-is a.rules.now a.old a.low (omega arith))))
