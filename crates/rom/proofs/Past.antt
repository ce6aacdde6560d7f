-- The letters of a set: `letter_bit` is named on `is_in`, so that no answer there hangs on the words of its condition. And no character
-- past z is in a set.
use Prim.Native.Nat.{ℕ, ◌/◌, ◌^◌, ◌<◌}
use mathlib.Core.Bool.{false}
use mathlib.Core.Path.{◌≡◌}
use lib.Dec.{eqb}
use Rattle.std.specs.Prelude.{bit_and}
use Rattle.base.specs.Bits.{flagged, by-shift}
use Rattle.rom.specs.Sets.{member, member-past}

pub letter_bit : (set k : ℕ) → eqb (bit_and (set / 2 ^ k) 1) 1 ≡ flagged set k
letter_bit = by-shift

pub past_z : (set c : ℕ) → 122 < c → member set c ≡ false
past_z set c h = member-past set c h
