-- `table_vowels::check_vowels`: the first fault from the row at `at` on is the table's.
use Prim.Native.Nat.{◌-◌}
use mathlib.Core.Path.{◌≡◌}
use lib.ListN.{length}
use Rattle.definition.specs.VowelRows.{vowel_size, vowel_next, vowel_right, vowel_fault}
use Rattle.definition.specs.Checking.{from}
use Rattle.table_vowels.proofs.check_vowels.Given as goal

abbrev pub invariant-loop-at : goal.invariant-loop-at
invariant-loop-at l =
    from vowel_size vowel_next vowel_right l.at l.left l.low l.vowels ≡ vowel_fault l.vowels

abbrev pub decreases-loop-at : goal.decreases-loop-at
decreases-loop-at l = length l.vowels - l.at
