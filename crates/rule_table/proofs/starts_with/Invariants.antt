-- `rule_table::starts_with`: what is left of both answers as the whole does.
use mathlib.Core.Path.{◌≡◌}
use Prim.Native.Nat.{◌+◌, ◌-◌, ◌*◌}
use lib.ListN.{drop}
use Rattle.base.specs.Lists.{starts}
use Rattle.base.specs.Rows.{counted}
use Rattle.definition.specs.RuleRows.{three_at, rule_source}
use Rattle.rule_table.proofs.starts_with.Given as goal

abbrev pub invariant-loop-i : goal.invariant-loop-i
invariant-loop-i l =
    starts (drop l.i l.w) (counted three_at 3 (l.count - l.i) (drop (6 + 3 * l.i) (drop l.row l.rules)))
    ≡ starts l.w (rule_source (drop l.row l.rules))
