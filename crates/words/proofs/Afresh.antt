-- A start of word that was not asked yet is found and remembered: named on `is_at_start_of_word`, so that no answer there
-- hangs on the words of its condition.
use Prim.Native.Nat.{ℕ, ◌<◌}
use mathlib.Core.Bool.{Bool}
use mathlib.Core.List.{List}
use mathlib.Core.Path.{◌≡◌, sym}
use native.Mathlib.Omega.{arith}
use lib.ListN.{get_or}
use Rattle.base.specs.Pick.{pick}
use Rattle.definition.specs.Boundaries.{fresh, word_start}
use Rattle.edge_places.specs.Entry.{start_in}
use Rattle.edge_places.specs.Shows.{memory, told, remembered}
use Rattle.words.specs.Did.{Asked}
use Rattle.words.specs.Given.{World, Lent, kinds, seen, size, size_in, line-size}
use Rattle.words.proofs.Starts.{start-asked}

module _ (w : World) (p : ℕ) (places after : List ℕ) (r : Bool) (line : List ℕ) (g : Lent w line places) (h : p < size_in line)
    (z : start_in (get_or places p 0) ≡ 0) (f : r ≡ fresh (kinds w) w.text (seen w) p) (m : after ≡ remembered places p (pick r 1 2)) where
  done : Asked w (word_start (kinds w) w.text (seen w) p) places after r
  done = let n = line-size g.text in start-asked w p (omega arith) places _ (sym z) (omega arith) r f after m

  pub value_afresh : (word_start (kinds w) w.text (seen w) p (memory (size w) places)).0 ≡ r
  value_afresh = sym done.did.value

  pub memory_afresh : (word_start (kinds w) w.text (seen w) p (memory (size w) places)).1 ≡ memory (size w) after
  memory_afresh = sym done.did.memory

  pub told_afresh : told after ≡ told places
  told_afresh = done.kept
