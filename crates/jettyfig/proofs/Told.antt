-- That a text has few characters, and how long zeros are: the first is named on `is_short`, so that no answer there hangs on the words
-- of a condition.
use Prim.Native.Nat.{ℕ, ◌≤◌}
use mathlib.Core.List.{List}
use mathlib.Core.Path.{◌≡◌}
use native.Mathlib.Omega.{arith}
use lib.ListN.{length, replicate, length-replicate}
use Rattle.definition.specs.Utf8.{decoded}
use Rattle.utf8.specs.Beginnings.{beginnings, few_beginnings}

pub few_decoded : (s : List ℕ) (n : ℕ) → beginnings s ≤ n → length (decoded s) ≤ n
few_decoded s n h = omega (arith, few_beginnings s)

pub length_of_zeros : (n : ℕ) → length (replicate {A = ℕ} n 0) ≡ n
length_of_zeros n = length-replicate n 0
