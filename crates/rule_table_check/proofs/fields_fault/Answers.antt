-- `rule_table_check::fields_fault`: what was read of the row, its place in the table.
use native.Mathlib.Omega.{arith}
use Rattle.rule_row_faults.specs.Row.{fault-near}
use Rattle.rule_table_check.proofs.fields_fault.Goals as goal

pub overflow_add-result : goal.overflow_add-result
overflow_add-result c =
    let n = fault-near c.args.rules.now c.args.at c.requires _ c.in-Err.ensures.0 in omega arith
