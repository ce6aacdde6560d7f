-- What is wrong with a rule table: the number that refuses it, and the place.
use Rattle.std.specs.Prelude.{not, List, [], ◌∷◌, ℕ, ◌+◌, eqb}
use Rattle.std.proofs.Math.Option.{Option, none, some}
use Rattle.base.specs.Lists.{first_of}
use Rattle.definition.specs.Limits.{most_rows}
use Rattle.definition.specs.Refusals.{Refusal, refuse, when, refused_length, refused_order, refused_rows}
use Rattle.definition.specs.Texts.{Text}
use Rattle.definition.specs.Blocks.{Walk, version_1, fault}
use Rattle.definition.specs.RuleRows.{rule_size, rule_source, rises}
use Rattle.definition.specs.RuleFields.{Cursor, next, wrong, read_row}

-- a faulty field of the row at `at`, by its offset in the table
unfoldable pub field_fault : ℕ → Cursor → Option Refusal
field_fault at (next o) = none
field_fault at (wrong k o) = some (refuse k (at + o))

-- What is wrong with the row at which a walk stands: first that there are too many rows, then its fields, and last the order
unfoldable pub row_fault : Walk Text → Option Refusal
row_fault x = first_of
    (when (eqb x.left 0) refused_rows x.at
    ∷ field_fault x.at (read_row x.rest)
    ∷ when (not (rises x.mark (rule_source x.rest))) refused_order x.at
    ∷ [])

-- What is wrong with a table: its header, which is a fault of length at 0, or its first faulty row
unfoldable pub rule_fault : List ℕ → Option Refusal
rule_fault b = fault rule_size rule_source row_fault version_1 (refuse refused_length 0) most_rows [] b
