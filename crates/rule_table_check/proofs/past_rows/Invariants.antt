-- `rule_table_check::past_rows`: each right row leaves the first fault as it was, and the turns and the rows that are left are all.
use Rattle.std.proofs.Common.{◌≡◌, ◌+◌}
use Rattle.rule_table_check.specs.Walks.{Kept}
use Rattle.rule_table_check.proofs.past_rows.Given as goal

abbrev pub invariant-loop-turn : goal.invariant-loop-turn
invariant-loop-turn l =
    let s = l.fn.start in
    Kept l.rules s.at s.left s.old s.low l.walk.at l.walk.left l.walk.old l.walk.low
    × (l._turn + l.walk.left ≡ s.left)
