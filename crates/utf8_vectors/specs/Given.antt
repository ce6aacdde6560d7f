-- What a vector gives, and whether it is what the decoder answered.
use Rattle.std.specs.Prelude.{Bool, true, ◌&&◌, List, [], ◌∷◌, ℕ, ◌+◌, ◌*◌, eqb, ltb, get_or, take, drop, replicate, Result, Ok, Err}
use Rattle.base.specs.Pick.{pick}
use Rattle.base.specs.Big.{be3}
use Rattle.definition.specs.Utf8.{decoded}
use Rattle.utf8.specs.declared.NotUtf8.{NotUtf8}
use Rattle.utf8.specs.Read.{answered}
use Rattle.utf8.specs.Puts.{puts}

-- what stands in the room where no character was put
abbrev pub empty : ℕ
empty = 7

-- an answer: 0 and the number of characters, or 1 and the offset of the bad sequence
unfoldable pub is_given : Result ℕ NotUtf8 → ℕ → ℕ → Bool
is_given (Ok n) kind number = eqb kind 0 && eqb n number
is_given (Err bad) kind number = eqb kind 1 && eqb bad.at number

-- Place `i` of the room, of which `count` are given at `at`, three bytes each
unfoldable pub is_place : List ℕ → ℕ → ℕ → ℕ → ℕ → Bool
is_place s at count i c = pick (ltb i count) (eqb c (be3 (drop (at + 3 * i) s) 0)) (eqb c empty)

-- and each place from `i` on
unfoldable pub are_places : List ℕ → ℕ → ℕ → ℕ → List ℕ → Bool
are_places s at count i [] = true
are_places s at count i (c ∷ l) = is_place s at count i c && are_places s at count (i + 1) l

-- The vector whose text stands at `at`, `len` bytes long: its kind, its number, the count of its characters and these follow
unfoldable pub is_right : List ℕ → ℕ → ℕ → Bool
is_right s at len =
    let text = take len (drop at s) in
    let end = at + len in
    is_given (answered text) (get_or s end 0) (get_or s (end + 1) 0)
    && are_places s (end + 3) (get_or s (end + 2) 0) 0 (puts 0 (decoded text) (replicate 16 empty))
