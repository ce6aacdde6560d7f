-- `rule_reader::walk_rules`: from each row on the check and the count lead where the whole leads (`Gone`).
use Prim.Native.Nat.{◌-◌}
use lib.ListN.{length}
use Rattle.rule_table_check.specs.Marks.{mark_behind}
use Rattle.rule_reader.specs.Counting.{Gone}
use Rattle.rule_reader.proofs.walk_rules.Given as goal

abbrev pub invariant-loop-at : goal.invariant-loop-at
invariant-loop-at l = Gone l.table l.at l.rows (mark_behind l.table l.before)

abbrev pub decreases-loop-at : goal.decreases-loop-at
decreases-loop-at l = length l.table - l.at
