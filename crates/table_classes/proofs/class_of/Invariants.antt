-- `table_classes::class_of`: the rows below `low` stand before the character, those from `high` on after it.
use Prim.Native.Nat.{◌-◌}
use Rattle.table_classes.proofs.Search.{Between}
use Rattle.table_classes.proofs.class_of.Given as goal

abbrev pub invariant-loop-low : goal.invariant-loop-low
invariant-loop-low l = Between l.classes l.c l.low l.high

abbrev pub decreases-loop-low : goal.decreases-loop-low
decreases-loop-low l = l.high - l.low
