-- The fields of a row lie in it: where the walk over them stands is at most the row's size, and a row that is read ends at its
-- size. (Proved in proofs/FieldsWithin.)
use Prim.Native.Nat.{ℕ, ◌≤◌}
use Rattle.definition.specs.RuleFields.{Cursor, next, wrong}

-- where a cursor stands
unfoldable pub place : Cursor → ℕ
place (next o) = o
place (wrong k o) = o

module _ (z : ℕ) where
  -- not past the row's end
  abbrev pub In : Cursor → Type 0
  In c = place c ≤ z

  -- and not before it, where all was read
  unfoldable pub Full : Cursor → Type 0
  Full (next o) = z ≤ o
  Full (wrong k o) = Unit {0}
