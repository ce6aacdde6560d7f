-- `rule_row_faults::read_tail`: each part begins in the row, where the one before it ended.
use native.Mathlib.Omega.{arith}
use Rattle.definition.proofs.FieldsWithin.{in_text_if}
use Rattle.rule_row_faults.proofs.Inside.{at_most}
use Rattle.rule_row_faults.proofs.read_tail.Goals as goal

pub read_text_if-requires-2 : goal.read_text_if-requires-2
read_text_if-requires-2 c =
    (omega arith, at_most c.in_ok-end_target_at.ensures (in_text_if _ _ _ _ c.requires.1), omega arith)

pub read_others-requires : goal.read_others-requires
read_others-requires c =
    let h = at_most c.in_ok-end_target_at.ensures (in_text_if _ _ _ _ c.requires.1) in
    (omega arith, at_most c.in_ok-others_at.ensures (in_text_if _ _ _ _ h), omega arith)
