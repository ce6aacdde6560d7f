-- `rule_table::compare_source`: what is left of both stands as the whole does.
use mathlib.Core.Path.{◌≡◌}
use Prim.Native.Nat.{◌+◌, ◌-◌, ◌*◌}
use lib.ListN.{drop}
use Rattle.base.specs.Rows.{counted}
use Rattle.definition.specs.RuleRows.{three_at, rule_source}
use Rattle.rule_table.specs.Order.{compared}
use Rattle.rule_table.proofs.compare_source.Given as goal

abbrev pub invariant-loop-i : goal.invariant-loop-i
invariant-loop-i l =
    compared (counted three_at 3 (l.count - l.i) (drop (6 + 3 * l.i) (drop l.row l.rules))) (drop l.i l.w)
    ≡ compared (rule_source (drop l.row l.rules)) l.w
