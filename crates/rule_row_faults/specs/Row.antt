-- What a row that was read says, in the definition's terms.
use Rattle.std.specs.Prelude.{◌≡◌, List, ℕ, ◌+◌, ◌≤◌, length, drop, Result, Ok, Err}
use Rattle.std.proofs.Common.{arith, length-drop}
use Rattle.definition.specs.RuleRows.{source_count, target_at, end_target_at, others_at}
use Rattle.definition.specs.RuleFields.{Cursor, next, wrong, read_row}
use Rattle.definition.specs.FieldsWithin.{place}
use Rattle.definition.proofs.FieldsWithin.{field-inside}
use Rattle.rule_row_faults.specs.declared.RowParts.{RowParts}
use Rattle.rule_row_faults.specs.declared.RuleFault.{RuleFault}
use Rattle.rule_row_faults.specs.Kinds.{fault_number}

-- where the walk over its fields ended
abbrev pub row_means : Result RowParts RuleFault → Cursor
row_means (Ok p) = next p.size
row_means (Err f) = wrong (fault_number f.kind) f.at

-- its parts are where the definition finds them
unfoldable pub Parted : List ℕ → Result RowParts RuleFault → Type 0
Parted s (Ok p) =
    (p.source ≡ source_count s) × (p.target ≡ target_at s)
    × (p.ending ≡ end_target_at s) × (p.others ≡ others_at s)
Parted s (Err f) = Unit {0}

-- the place of a fault lies in the table, or is its end
pub fault-near : (b : List ℕ) (at : ℕ) → at ≤ length b → (f : RuleFault) → wrong (fault_number f.kind) f.at ≡ read_row (drop at b)
    → at + f.at ≤ length b
unfolding place
fault-near b at l f w =
    let i : f.at ≤ length (drop at b) = rw (← w) at (field-inside (drop at b)) in
    omega (arith, length-drop at b)
