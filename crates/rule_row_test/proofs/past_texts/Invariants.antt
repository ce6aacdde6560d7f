-- `rule_row_test::past_texts`: what is told of the texts that are left is told of all.
use Prim.Native.Nat.{◌-◌, ◌≤◌}
use Rattle.std.specs.Prelude.{Option, ℕ}
use Rattle.rule_row_test.specs.Texts.{Walked}
use Rattle.rule_row_test.proofs.past_texts.Given as goal

abbrev pub invariant-loop-turn : goal.invariant-loop-turn
invariant-loop-turn l =
    (l.at ≤ l.end) × ((r : Option ℕ) → Walked l.s l.end (l.count - l._turn) l.at r → Walked l.s l.end l.count l.from r)
