-- `rule_table::look_up`: those counted and those still to come are all that are equal, and nothing longer was passed.
use mathlib.Core.Path.{◌≡◌}
use Prim.Native.Nat.{◌+◌, ◌-◌, ◌≤◌}
use lib.ListN.{length}
use Rattle.rule_table.specs.Index.{offsets_from}
use Rattle.rule_table.specs.Seek.{run, equal_rows}
use Rattle.rule_table.specs.Longer.{Passed}
use Rattle.rule_table.proofs.look_up.Given as goal

abbrev pub invariant-loop-at : goal.invariant-loop-at
invariant-loop-at l =
    (l.count + run l.rules l.w (offsets_from l.rules l.at) ≡ equal_rows l.rules l.w) × (l.count ≤ l.at) × Passed l.rules l.w l.at

abbrev pub decreases-loop-at : goal.decreases-loop-at
decreases-loop-at l = length l.rules - l.at
