-- `rule_table::walk_start`: of the entries before `low` the last is one where a walk may begin.
use mathlib.Core.Path.{◌≡◌}
use Prim.Native.Nat.{◌-◌, ◌≤◌, ◌<◌}
use lib.ListN.{length, get_or}
use Rattle.rule_table.specs.Index.{offsets_from}
use Rattle.rule_table.specs.Seek.{seek, first_at}
use Rattle.rule_table.proofs.walk_start.Given as goal

abbrev pub invariant-loop-low : goal.invariant-loop-low
invariant-loop-low l =
    (0 < l.low → seek l.rules l.w (offsets_from l.rules (get_or l.index (l.low - 1) 0)) ≡ first_at l.rules l.w)
    × (l.low ≤ l.high) × (l.high ≤ length l.index)

abbrev pub decreases-loop-low : goal.decreases-loop-low
decreases-loop-low l = l.high - l.low
