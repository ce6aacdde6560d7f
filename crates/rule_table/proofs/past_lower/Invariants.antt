-- `rule_table::past_lower`: from each row on the search ends where it ended from the first.
use mathlib.Core.Path.{◌≡◌}
use Prim.Native.Nat.{◌-◌}
use lib.ListN.{length}
use Rattle.rule_table.specs.Index.{offsets_from}
use Rattle.rule_table.specs.Seek.{seek}
use Rattle.rule_table.proofs.past_lower.Given as goal

abbrev pub invariant-loop-at : goal.invariant-loop-at
invariant-loop-at l = seek l.rules l.w (offsets_from l.rules l.at) ≡ seek l.rules l.w (offsets_from l.rules l.from)

abbrev pub decreases-loop-at : goal.decreases-loop-at
decreases-loop-at l = length l.rules - l.at
