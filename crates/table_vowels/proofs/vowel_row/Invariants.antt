-- `table_vowels::vowel_row`: the rows from `at` on have the script's row, if any has.
use Prim.Native.Nat.{◌-◌}
use mathlib.Core.Path.{◌≡◌}
use lib.ListN.{length}
use Rattle.definition.specs.Vowels.{vowel_row}
use Rattle.definition.specs.VowelRows.{vowels_of}
use Rattle.table_vowels.proofs.VowelWalk.{From, row_from}
use Rattle.table_vowels.proofs.vowel_row.Given as goal

abbrev pub invariant-loop-at : goal.invariant-loop-at
invariant-loop-at l = (row_from l.at l.vowels l.script ≡ vowel_row (vowels_of l.vowels) l.script) × From l.at l.vowels

abbrev pub decreases-loop-at : goal.decreases-loop-at
decreases-loop-at l = length l.vowels - l.at
