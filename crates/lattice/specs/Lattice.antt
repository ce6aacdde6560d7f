-- What is promised of a whole lattice, and what it needs.
use Rattle.std.specs.Prelude.{ℕ, ◌+◌, ◌*◌, List, ◌≡◌, replicate}
use Rattle.definition.specs.Limits.{most_bytes, most_edges, most_characters}
use Rattle.definition.specs.Building.{rule_lattice}
use Rattle.definition.specs.Call.{tables_of}
use Rattle.edge.specs.Answers.{Answer}
use Rattle.table_vowels.specs.Told.{FineVowels}
use Rattle.words.specs.Given.{World, kinds, size, size_in, Prepared}
use Rattle.passes.specs.Reached.{nothing, Over, Somewhere, Rooms, Reached}
use Rattle.second_pass.specs.Fallback.{chars_in, Own}

-- The whole lattice, of every world over no edges
abbrev pub Lattice : List ℕ → List ℕ → List ℕ → List ℕ → List ℕ → Rooms → Rooms → Answer → Type 0
Lattice rules ready vowels code line before after r =
    (w : World) → Over w ready line before.0 before.1 before.2 nothing
    → Reached (kinds w) (size w) before.0 before.1 after.0 after.1 after.2 (most_edges * most_characters * most_bytes)
    (rule_lattice (tables_of w.choices rules w.classes vowels code) w.text) r

-- What building it needs: the tables are as they were checked, the text's bytes are its own, what is lent stands for a
-- world without edges, and places and starts are zeros
abbrev pub Buildable : List ℕ → List ℕ → List ℕ → List ℕ → List ℕ → List ℕ → List ℕ → List ℕ → List ℕ → Type 0
Buildable rules ready vowels text line slots room places starts =
    Prepared rules ready × FineVowels vowels × Own text (chars_in line) × Somewhere ready line slots room places nothing
    × (places ≡ replicate (size_in line + 1) 0) × (starts ≡ replicate (size_in line + 1) 0)
