-- A part of some bytes where it lies within them, and nothing else.
use Rattle.std.specs.Prelude.{ℕ, ◌+◌, ◌≤◌, ◌<◌, List, [], ◌≡◌, leb, length, take, drop}
use Rattle.std.proofs.Common.{le-leb}
use Rattle.std.proofs.lemmas.Bool.{lt-leb}
use Rattle.base.specs.Pick.{pick}

unfoldable pub part_or_none : List ℕ → ℕ → ℕ → List ℕ
part_or_none s at n = pick (leb (at + n) (length s)) (take n (drop at s)) []

module _ (s : List ℕ) (at n : ℕ) where
  pub part-there : at + n ≤ length s → take n (drop at s) ≡ part_or_none s at n
  unfolding part_or_none pick
  part-there h = rw (le-leb (at + n) (length s) h)

  pub part-past : length s < at + n → [] ≡ part_or_none s at n
  unfolding part_or_none pick
  part-past h = rw (lt-leb (at + n) (length s) h)
