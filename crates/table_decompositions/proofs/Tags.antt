-- A row with a tag past the highest is not right.
use Prim.Native.Nat.{ℕ, ◌<◌}
use mathlib.Core.Bool.{false, and-false}
use mathlib.Core.List.{List}
use mathlib.Core.Path.{◌≡◌}
use borrow.Author.Tests.{lt-leb}
use Rattle.definition.specs.Tables.{tag_other}
use Rattle.definition.specs.DecompositionRows.{decomposition_tag, decomposition_fits}

pub tag_past : (s : List ℕ) (low : ℕ) → tag_other < decomposition_tag s → decomposition_fits low s ≡ false
unfolding decomposition_fits
tag_past s low h = simp (lt-leb (decomposition_tag s) tag_other h, and-false)
