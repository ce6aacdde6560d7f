-- What a call's answer was given as, and whether it is so.
use Rattle.std.specs.Prelude.{Bool, ◌&&◌, List, ℕ, ◌+◌, eqb, leb, length, get_or, take, drop}
use Rattle.base.specs.Big.{be4}
use Rattle.base.specs.Lists.{all, same}
use Rattle.lent_bytes.specs.Parts.{part_or_none}
use Rattle.jettyfig.specs.declared.Answer.{Answer}

-- the number in four bytes at a place
abbrev pub number_at : List ℕ → ℕ → ℕ
number_at s at = be4 (drop at s) 0

unfoldable pub zeros : List ℕ → Bool
zeros s = all (eqb 0) s

-- The answer at `at`: number in one byte, place, length and edges in four
unfoldable pub are_numbers : List ℕ → ℕ → Answer → Bool
are_numbers s at a =
    eqb a.number (get_or s at 0) && (eqb a.place (number_at s (at + 1))
    && (eqb a.length (number_at s (at + 5)) && eqb a.edges (number_at s (at + 9))))

-- and then `len` bytes of output; all else of output, slots and room is zero
unfoldable pub is_right_by : List ℕ → ℕ → Answer → List ℕ → List ℕ → List ℕ → ℕ → Bool
is_right_by s at a slots room out len =
    leb len (length out) && (are_numbers s at a && (same (part_or_none s (at + 13) len) (take len out)
    && (zeros (drop len out) && (zeros slots && zeros room))))

-- as many as the length says
unfoldable pub is_right : List ℕ → ℕ → Answer → List ℕ → List ℕ → List ℕ → Bool
is_right s at a slots room out = is_right_by s at a slots room out (number_at s (at + 5))
