-- `table_classes::check_classes`: the first fault from the row at `at` on is the table's.
use Prim.Native.Nat.{◌-◌}
use mathlib.Core.Path.{◌≡◌}
use lib.ListN.{length}
use Rattle.definition.specs.ClassRows.{class_size, class_next, class_right, class_fault}
use Rattle.definition.specs.Checking.{from}
use Rattle.table_classes.proofs.check_classes.Given as goal

abbrev pub invariant-loop-walk : goal.invariant-loop-walk
invariant-loop-walk l =
    from class_size class_next class_right l.walk.at l.walk.left l.walk.low l.classes ≡ class_fault l.classes

abbrev pub decreases-loop-walk : goal.decreases-loop-walk
decreases-loop-walk l = length l.classes - l.walk.at
