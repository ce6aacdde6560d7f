-- Flags in plain arithmetic, and one law for each way to ask a bit and to set one.
use Rattle.std.specs.Prelude.{ℕ, ◌-◌, ◌/◌, ◌%◌, ◌^◌, ◌<◌, ◌≡◌, refl, Bool, true, false, eqb}
use Rattle.std.proofs.Common.{ap, arith, ne_eqb}
use Rattle.std.proofs.Math.Nat.{zero-div}
use Rattle.std.specs.Int.Bits.{bit_and}
use Rattle.std.proofs.lemmas.Nat.{and_mask}
use mir.Val.{bool_byte}

-- bit k of x
unfoldable pub flagged : ℕ → ℕ → Bool
flagged x k = eqb ((x / 2 ^ k) % 2) 1

-- `(x >> k) & 1 == 1`
pub by-shift : (x k : ℕ) → eqb (bit_and (x / 2 ^ k) 1) 1 ≡ flagged x k
unfolding flagged
by-shift x k = ap (λ (n : ℕ). eqb n 1) (and_mask (x / 2 ^ k) 1)

-- a bit as a number
abbrev pub bit : Bool → ℕ
bit true = 1
bit false = 0

pub bit_byte : (t : Bool) → (bool_byte t ≡ bit t) × (bit t < 2)
bit_byte true = (refl, omega arith)
bit_byte false = (refl, omega arith)

-- no flag is set in 0
pub unflagged : (k : ℕ) → flagged 0 k ≡ false
unfolding flagged
unflagged k = ne_eqb (0 / 2 ^ k % 2) 1 (λ e. omega (arith, zero-div (2 ^ k)))

-- a bit is set just where it is told
pub is_set : (b : Bool) → eqb (bit b) 1 ≡ b
is_set true = refl
is_set false = refl
