-- What a vowel row that fits has inside, and its letters.
use Prim.Native.Nat.{ℕ, ◌+◌, ◌-◌, ◌≤◌}
use mathlib.Core.List.{List}
use mathlib.Core.Bool.{true}
use mathlib.Core.Path.{◌≡◌, sym}
use native.Mathlib.Omega.{arith}
use lib.ListN.{length, take, drop}
use lib.Seq.{drop-drop}
use Rattle.base.specs.Bools.{and_left}
use Rattle.base.specs.ListLaws.{holds-length}
use Rattle.definition.specs.VowelRows.{vowel_length, vowel_size, vowel_letters, vowel_fits}

pub fits_inside : (s : List ℕ) (low : ℕ) → true ≡ vowel_fits low s → vowel_size s ≤ length s
unfolding vowel_fits
fits_inside s low h = holds-length (vowel_size s) s (and_left _ _ (and_left _ _ (and_left _ _ (sym h))))

-- a row's letters, by their places in the table
pub letters_at : (b : List ℕ) (row from to : ℕ) → from ≡ row + 3 → to ≡ from + vowel_length (drop row b)
    → take (to - from) (drop from b) ≡ vowel_letters (drop row b)
unfolding vowel_letters
letters_at b row from to e f =
    let g : to - from ≡ vowel_length (drop row b) = omega arith in
    rw (g, drop-drop, e)
