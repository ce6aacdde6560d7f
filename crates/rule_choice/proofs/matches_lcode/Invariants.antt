-- `rule_choice::matches_lcode`: the codes still to come have the language where all of the row have.
use mathlib.Core.Path.{◌≡◌}
use Prim.Native.Nat.{◌+◌, ◌-◌, ◌*◌}
use lib.ListN.{drop}
use Rattle.base.specs.Lists.{any, same}
use Rattle.base.specs.Rows.{counted}
use Rattle.definition.specs.RuleRows.{code_of, target_at, rule_codes}
use Rattle.rule_choice.proofs.matches_lcode.Given as goal

abbrev pub invariant-loop-turn : goal.invariant-loop-turn
invariant-loop-turn l =
    (any (same l.code) (counted code_of 3 (l.codes - l._turn) (drop l.at l.rules)) ≡ any (same l.code) (rule_codes (drop l.row l.rules)))
    × (l.at + 3 * (l.codes - l._turn) ≡ l.row + target_at (drop l.row l.rules))
