-- `rule_table_check::plain_row`: where each test passes.
use native.Mathlib.Omega.{arith}
use mathlib.Core.Path.{refl}
use Rattle.rule_table_check.specs.Plain.{told}
use Rattle.rule_table_check.proofs.plain_row.Goals as goal

pub returns : goal.returns
returns c =
    let a = c.args in
    told a.rules.now a.row a.low c.at-n.result c.three-c.result
    (omega arith) (omega arith) (omega (arith, c.size_there.ensures.0))
    (omega (arith, c.source_len.ensures.0)) (omega (arith, c.at.ensures.0))
    (omega (arith, c.at-else-at-ne0.ensures.0)) (omega arith)
    (omega (arith, c.at-else-rules-row.ensures.0)) (omega arith) (omega (arith, c.three-c.ensures.0))
    (omega arith)
    _ _ refl refl c.if-not-all_printable.ensures
