-- `rule_table::first_of`
use native.Mathlib.Omega.{arith}
use Rattle.rule_table.specs.Order.{first-told}
use Rattle.rule_table.proofs.first_of.Goals as goal

pub returns-then-key-gt16777215 : goal.returns-then-key-gt16777215
returns-then-key-gt16777215 c =
    let f = c in
    let a = c.args in
    first-told a.rules.now a.row _ f.four_there-key.ensures.0 (λ i. omega (arith, c.type_inv.rules i)) (omega arith)
