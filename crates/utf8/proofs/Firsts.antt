-- A byte without the six bits of a continuation byte counts one.
use mathlib.Core.Path.{◌≡◌}
use Prim.Native.Nat.{ℕ}
use borrow.Author.Tests.{eq-eqb}
use Rattle.base.specs.Pick.{pick}
use Rattle.definition.specs.Utf8.{six}
use Rattle.utf8.specs.Beginnings.{begins}

pub one_where_no_six : (b : ℕ) → six b ≡ 64 → begins b ≡ 1
unfolding pick
one_where_no_six b h = rw (eq-eqb (six b) 64 h)
