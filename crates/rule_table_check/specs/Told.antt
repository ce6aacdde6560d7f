-- What the check's answers say in the definition's terms.
use Rattle.std.specs.Prelude.{Bool, false, not, List, [], ◌∷◌, ℕ, eqb, leb, length, drop, Result, Ok, Err}
use Rattle.std.proofs.Math.Option.{Option, none, some}
use Rattle.base.specs.Pick.{pick}
use Rattle.base.specs.Lists.{first_of}
use Rattle.definition.specs.Refusals.{Refusal, refuse, when, refused_order, refused_rows}
use Rattle.definition.specs.RuleFields.{read_row}
use Rattle.definition.specs.RuleFaults.{field_fault}
use Rattle.rule_row_faults.specs.Kinds.{fault_number}
use Rattle.rule_row_faults.specs.declared.RuleFault.{RuleFault}

-- nothing, or a fault's number and its place
abbrev pub rules_means : Result (Unit {0}) RuleFault → Option Refusal
rules_means (Ok u) = none
rules_means (Err f) = some (refuse (fault_number f.kind) f.at)

-- what is wrong with the row that `s` begins with, by whether its source rises
abbrev pub told_of : ℕ → ℕ → List ℕ → Bool → Option Refusal
told_of at left s rises = first_of
    (when (eqb left 0) refused_rows at ∷ field_fault at (read_row s) ∷ when (not rises) refused_order at ∷ [])

-- what is found where the walk over a table stops: its end, or a row that is not right, and so by its order where nothing else is
-- wrong with it
unfoldable pub stopped_at : List ℕ → ℕ → ℕ → Option Refusal
stopped_at b at left = pick (leb (length b) at) none (told_of at left (drop at b) false)
