-- `rule_row::rest_rises`: what is left of both sources rises where they do (`Level`), and each turn keeps that.
use Prim.Native.Nat.{◌-◌, ◌≤◌}
use lib.ListN.{drop}
use Rattle.rule_row.specs.Rise.{Level}
use Rattle.rule_row.proofs.rest_rises.Given as goal

abbrev pub invariant-loop-o : goal.invariant-loop-o
invariant-loop-o l = Level (drop l.a l.rules) (drop l.b l.rules) l.o × (l.o ≤ l.end)

abbrev pub decreases-loop-o : goal.decreases-loop-o
decreases-loop-o l = l.end - l.o
