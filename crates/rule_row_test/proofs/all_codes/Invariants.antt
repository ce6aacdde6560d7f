-- `rule_row_test::all_codes`: what is left from `at` on says what the whole does.
use Prim.Native.Nat.{◌+◌, ◌-◌, ◌*◌, ◌/◌}
use mathlib.Core.Path.{◌≡◌}
use lib.ListN.{drop}
use Rattle.base.specs.Lists.{all}
use Rattle.base.specs.Rows.{counted}
use Rattle.definition.specs.Blocks.{small}
use Rattle.definition.specs.RuleRows.{code_of}
use Rattle.rule_row_test.proofs.all_codes.Given as goal

abbrev pub invariant-loop-at : goal.invariant-loop-at
invariant-loop-at l =
    (l.at + 3 * ((l.to - l.at) / 3) ≡ l.to)
    × (all (all small) (counted code_of 3 ((l.to - l.at) / 3) (drop l.at l.s)) ≡ all (all small) (counted code_of 3 ((l.to - l.from) / 3) (drop l.from l.s)))

abbrev pub decreases-loop-at : goal.decreases-loop-at
decreases-loop-at l = l.to - l.at
