-- `rule_reader::row_at`: a row as it was read, with its fault's offset in the table.
use native.Mathlib.Omega.{arith}
use Rattle.rule_row_faults.specs.Row.{fault-near}
use Rattle.rule_reader.specs.Here.{at_end, row_read, fault-read}
use Rattle.rule_reader.proofs.row_at.Goals as goal

pub returns-then-table-at : goal.returns-then-table-at
returns-then-table-at c = at_end _ _ (omega arith)

pub overflow_add-result : goal.overflow_add-result
overflow_add-result c =
    let n = fault-near c.args.table.now c.args.at (omega arith) _ c.in-Err.ensures.0 in omega arith

pub returns-in-Ok : goal.returns-in-Ok
returns-in-Ok c = row_read _ _ (omega arith) _ c.in-Ok.ensures.0 c.in-Ok.ensures.1

pub returns-in-Err : goal.returns-in-Err
returns-in-Err c = fault-read _ _ (omega arith) _ c.in-Err.ensures.0
