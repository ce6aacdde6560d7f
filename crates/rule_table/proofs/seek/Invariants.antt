-- `rule_table::seek`: from each row on the search ends where the whole ends.
use mathlib.Core.Path.{◌≡◌}
use Prim.Native.Nat.{◌-◌}
use lib.ListN.{length}
use Rattle.rule_table.specs.Index.{offsets_from}
use Rattle.rule_table.specs.Seek.{seek, first_at}
use Rattle.rule_table.proofs.seek.Given as goal

abbrev pub invariant-loop-at : goal.invariant-loop-at
invariant-loop-at l = seek l.rules l.w (offsets_from l.rules l.at) ≡ first_at l.rules l.w

abbrev pub decreases-loop-at : goal.decreases-loop-at
decreases-loop-at l = length l.rules - l.at
