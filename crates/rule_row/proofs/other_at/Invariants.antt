-- `rule_row::other_at`: what is left of the walk leads to the place.
use Rattle.std.proofs.Common.{◌≡◌, ◌+◌, ◌-◌, drop}
use Rattle.definition.specs.RuleRows.{texts_size}
use Rattle.rule_row.specs.Others.{other_at}
use Rattle.rule_row.proofs.other_at.Given as goal

abbrev pub invariant-loop-turn : goal.invariant-loop-turn
invariant-loop-turn l =
    l.o + texts_size (l.k - l._turn) (drop l.o (drop l.row l.rules)) ≡ other_at (drop l.row l.rules) l.k
