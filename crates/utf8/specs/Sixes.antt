-- The cases of `six`, each by the facts of numbers that lead to it.
use Rattle.std.specs.Prelude.{◌≡◌, ℕ, ◌-◌, ◌<◌, ◌≤◌}
use Rattle.std.proofs.Common.{arith}
use borrow.Author.Tests.{lt-ltb, le-ltb, le-leb, lt-leb}
use Rattle.base.specs.Pick.{pick}
use Rattle.definition.specs.Utf8.{six}

module _ (b : ℕ) where
  pub six_low : b < 128 → 64 ≡ six b
  unfolding six pick
  six_low h = rw (lt-leb 128 b h)

  pub six-own : (v : ℕ) → (128 ≤ b) × (b < 192) × (v ≡ b - 128) → v ≡ six b
  unfolding six pick
  six-own v h = rw (le-leb 128 b h.0, lt-ltb b 192 h.1) h.2

  pub six_high : 192 ≤ b → 64 ≡ six b
  unfolding six pick
  six_high h = rw (le-leb 128 b (omega arith), le-ltb b 192 h)
