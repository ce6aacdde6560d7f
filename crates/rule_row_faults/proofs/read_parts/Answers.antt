-- `rule_row_faults::read_parts`: each part begins in the row, where the one before it ended.
use native.Mathlib.Omega.{arith}
use Rattle.definition.proofs.FieldsWithin.{in_flags, in_source, in_codes}
use Rattle.rule_row_faults.proofs.Inside.{at_most}
use Rattle.rule_row_faults.proofs.read_parts.Goals as goal

pub read_source-requires : goal.read_source-requires
read_source-requires c =
    (omega arith, at_most c.in_ok-source_at.ensures (in_flags _ _ c.requires.0), omega arith)

pub read_codes-requires : goal.read_codes-requires
read_codes-requires c =
    let h = at_most c.in_ok-source_at.ensures (in_flags _ _ c.requires.0) in
    (omega arith, at_most c.in_ok-codes_at.ensures (in_source _ _ _ h), omega arith)

pub read_tail-requires : goal.read_tail-requires
read_tail-requires c =
    let h = at_most c.in_ok-source_at.ensures (in_flags _ _ c.requires.0) in
    let i = at_most c.in_ok-codes_at.ensures (in_source _ _ _ h) in
    (omega arith, at_most c.in_ok-target_at.ensures (in_codes _ _ _ i), omega arith)
