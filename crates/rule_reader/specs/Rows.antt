-- What stands at an offset of a rule table, where the next row begins, and how many rows of the table are right.
use Rattle.std.specs.Prelude.{true, false, List, [], ℕ, zero, suc, ◌+◌, min, leb, length, drop, Result, Ok, Err, Option, Some, None}
use Rattle.base.specs.Pick.{pick}
use Rattle.definition.specs.Limits.{most_rows}
use Rattle.definition.specs.Refusals.{Refusal, refuse}
use Rattle.definition.specs.Texts.{Text}
use Rattle.definition.specs.Blocks.{version_1, headed, head_bytes}
use Rattle.definition.specs.RuleRows.{rule_size, rule_source, rule_right, source_count, target_at, end_target_at, others_at}
use Rattle.definition.specs.RuleFields.{Cursor, next, wrong, read_row}
use Rattle.rule_row_faults.specs.Kinds.{fault_number}
use Rattle.rule_row_faults.specs.declared.RowParts.{RowParts}
use Rattle.rule_row_faults.specs.declared.RuleFault.{RuleFault}

-- What may stand at an offset: a row's parts, a fault's number and place, or the end
pub data Here : Type 0 where
  a_row : RowParts → Here
  a_fault : Refusal → Here
  the_end : Here

-- as a reader answers it
abbrev pub here_means : Result (Option RowParts) RuleFault → Here
here_means (Ok (Some p)) = a_row p
here_means (Ok None) = the_end
here_means (Err f) = a_fault (refuse (fault_number f.kind) f.at)

-- The parts of the row that `s` begins with
unfoldable pub parts : List ℕ → RowParts
parts s = record {
  size = rule_size s;
  source = source_count s;
  target = target_at s;
  ending = end_target_at s;
  others = others_at s;
}

-- The row at `at` by what reading its fields found. The offset of a fault is one in the table
unfoldable pub told : ℕ → List ℕ → Cursor → Here
told at s (next o) = a_row (parts s)
told at s (wrong k o) = a_fault (refuse k (at + o))

-- What stands at `at` of the table `t`: a row, a faulty one, or the end
unfoldable pub row_here : List ℕ → ℕ → Here
row_here t at = pick (leb (length t) at) the_end (told at (drop at t) (read_row (drop at t)))

-- Where the next row begins: behind this one by its size, and no further than the table's end. From there on it stays
unfoldable pub next_row : List ℕ → ℕ → ℕ
next_row t at = pick (leb (length t) at) at (min (at + rule_size (drop at t)) (length t))

-- `n` rows past that at `at`
unfoldable pub past_rows : List ℕ → ℕ → ℕ → ℕ
past_rows t at zero = at
past_rows t at (suc n) = past_rows t (next_row t at) n

-- How many rows of `s` are right one after another, no more than `left`. The first comes after the source `old`, and
-- each later one after that before it
unfoldable pub rights : ℕ → Text → List ℕ → ℕ
rights zero old s = 0
rights (suc left) old s =
    elim (rule_right old s) [ true ↦ 1 + rights left (rule_source s) (drop (rule_size s) s) | false ↦ 0 ]

-- and of a table, from its first row on; none where the header is faulty
unfoldable pub right_rows : List ℕ → ℕ
right_rows t = pick (headed version_1 t) (rights most_rows [] (drop head_bytes t)) 0
