-- A surrogate is no character, however it is spelled.
use mathlib.Core.Path.{◌≡◌}
use Prim.Native.Nat.{ℕ, ◌<◌, ◌≤◌}
use borrow.Author.Tests.{lt-ltb, le-ltb, le-leb, lt-leb}
use Rattle.std.specs.Prelude.{None}
use Rattle.base.specs.Pick.{pick}
use Rattle.definition.specs.Utf8.{scalar, checked}
use Rattle.utf8.specs.Read.{char_means}

pub surrogate : (low n v : ℕ) → (low ≤ v) × (0xD800 ≤ v) × (v < 0xE000) → char_means None ≡ checked low n v
unfolding char_means checked scalar pick
surrogate low n v h = rw (le-leb low v h.0, le-ltb v 0xD800 h.1, lt-leb 0xE000 v h.2)
