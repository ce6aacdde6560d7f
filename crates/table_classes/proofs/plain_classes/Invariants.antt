-- `table_classes::plain_classes`: past each plain row the first fault is that from the first on.
use Prim.Native.Nat.{◌+◌, ◌≤◌}
use mathlib.Core.Path.{◌≡◌}
use lib.ListN.{length}
use Rattle.table_classes.specs.Plain.{fault_from}
use Rattle.table_classes.proofs.plain_classes.Given as goal

abbrev pub invariant-loop-turn : goal.invariant-loop-turn
invariant-loop-turn l = record {
  same : fault_from l.classes l.walk.at l.walk.left l.walk.low ≡ fault_from l.classes l.fn.start.at l.fn.start.left l.fn.start.low;
  on : l.fn.start.at ≤ l.walk.at;
  within : l.walk.at ≤ length l.classes;
  left : l._turn + l.walk.left ≡ l.fn.start.left;
}
