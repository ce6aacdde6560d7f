-- The numbers that refuse a rule table: what holds of the six holds of any fault's.
-- (Proved in proofs/RuleNumbers.)
use Prim.Native.Nat.{ℕ}
use Rattle.definition.specs.Refusals.{refused_length, refused_range, refused_letter, refused_byte, refused_order, refused_rows}
use Rattle.definition.specs.RuleFields.{Cursor, next, wrong}

-- `Q` holds of each of the six
pub record Six (Q : ℕ → Type 0) : Type 0 where
  pub of_length : Q refused_length
  pub of_range : Q refused_range
  pub of_letter : Q refused_letter
  pub of_byte : Q refused_byte
  pub of_order : Q refused_order
  pub of_rows : Q refused_rows

module _ (Q : ℕ → Type 0) (six : Six Q) where
  -- the number of a faulty field
  unfoldable pub Known : Cursor → Type 0
  Known (next o) = Unit {0}
  Known (wrong k o) = Q k
