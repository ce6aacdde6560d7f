-- `rule_row_test::all_scalar`: what is left from `at` on says what the whole does.
use Prim.Native.Nat.{◌+◌, ◌-◌, ◌*◌, ◌/◌}
use mathlib.Core.Path.{◌≡◌}
use lib.ListN.{drop}
use Rattle.base.specs.Lists.{all}
use Rattle.base.specs.Rows.{counted}
use Rattle.definition.specs.Utf8.{scalar}
use Rattle.definition.specs.RuleRows.{three_at}
use Rattle.rule_row_test.proofs.all_scalar.Given as goal

abbrev pub invariant-loop-at : goal.invariant-loop-at
invariant-loop-at l =
    (l.at + 3 * ((l.to - l.at) / 3) ≡ l.to)
    × (all scalar (counted three_at 3 ((l.to - l.at) / 3) (drop l.at l.s)) ≡ all scalar (counted three_at 3 ((l.to - l.from) / 3) (drop l.from l.s)))

abbrev pub decreases-loop-at : goal.decreases-loop-at
decreases-loop-at l = l.to - l.at
