-- `rule_row_faults::read_others`: the count lies in the row.
use native.Mathlib.Omega.{arith}
use Rattle.definition.proofs.FieldsWithin.{in_field}
use Rattle.rule_row_faults.proofs.Inside.{at_most}
use Rattle.rule_row_faults.proofs.read_others.Goals as goal

pub read_texts-requires : goal.read_texts-requires
read_texts-requires c =
    (omega arith, at_most c.in_ok-next.ensures (in_field _ _ _ _ _ c.requires.1), omega arith)
