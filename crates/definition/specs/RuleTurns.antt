-- A rule table checked row by row: a row has a size, and the first fault from a row on. (proofs/RuleTurns: what is found of a
-- row.)
use Rattle.std.specs.Prelude.{ℕ, ◌<◌}
use Rattle.std.proofs.Common.{arith}
use mathlib.Core.List.{List}
use Rattle.std.proofs.Math.Option.{Option}
use Rattle.definition.specs.Refusals.{Refusal}
use Rattle.definition.specs.Texts.{Text}
use Rattle.definition.specs.RuleRows.{rule_size, rule_source}
use Rattle.definition.specs.RuleFaults.{row_fault}
use Rattle.definition.specs.Checking.{found_from}

-- A row has a size
pub rule_moves : (s : List ℕ) → 0 < rule_size s
unfolding rule_size
rule_moves s = omega arith

-- The first fault from a row on
abbrev pub rules_from : ℕ → ℕ → Text → List ℕ → Option Refusal
rules_from = found_from rule_size rule_source row_fault
