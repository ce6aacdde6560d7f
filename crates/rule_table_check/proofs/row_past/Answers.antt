-- `rule_table_check::row_past`: a row of the commonest kind, or any other.
use native.Mathlib.Omega.{arith}
use mathlib.Core.Path.{sym, ◌∙◌}
use Rattle.rule_table_check.specs.Marks.{mark_at}
use Rattle.rule_table_check.specs.Plain.{plain-past}
use Rattle.rule_table_check.proofs.row_past.Goals as goal

pub returns-in-Some : goal.returns-in-Some
returns-in-Some c =
    let a = c.args in plain-past (mark_at a.rules.now a.old a.low) c.requires.1 c.in-Some.ensures

pub returns-then-not-row_right : goal.returns-then-not-row_right
returns-then-not-row_right c = sym c.if-not-row_right.true ∙ c.row_right.ensures

pub returns : goal.returns
returns c = (sym c.if-not-row_right.false ∙ c.row_right.ensures, omega (arith, c.size.ensures.0))
