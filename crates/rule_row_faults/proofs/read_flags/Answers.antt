-- `rule_row_faults::read_flags`: the flags lie in the row.
use native.Mathlib.Omega.{arith}
use Rattle.definition.proofs.FieldsWithin.{in_field}
use Rattle.rule_row_faults.proofs.Inside.{at_most}
use Rattle.rule_row_faults.proofs.read_flags.Goals as goal

pub field-requires-2 : goal.field-requires-2
field-requires-2 c =
    let l = at_most c.in_ok-o.ensures (in_field _ _ _ _ _ c.requires.0) in (omega arith, omega arith)
