-- When a listing is refused with 19: in mode 2 alone, and there just where its rows pass the limit, whatever the output's length.
-- (Proved in proofs/TooLarge.)
use Rattle.std.specs.Prelude.{ℕ}
use Rattle.definition.specs.Decomposing.{with_alternatives}
use Rattle.definition.specs.Call.{Inputs, tables, decompositions, characters}
use Rattle.definition.specs.Sizes.{listed_bytes}

module _ (i : Inputs) where
  -- the bytes of the rows that mode 2 lists
  abbrev pub mode_2_bytes : ℕ
  mode_2_bytes = listed_bytes (with_alternatives (tables i) (decompositions i) (characters i))
