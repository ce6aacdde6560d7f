-- What the second pass needs of what it is lent, and what it and its steps promise.
use Rattle.std.specs.Prelude.{ℕ, ◌+◌, ◌*◌, ◌<◌, List, length}
use Rattle.definition.specs.Limits.{most_bytes}
use Rattle.definition.specs.Texts.{Text}
use Rattle.definition.specs.Tables.{Tables}
use Rattle.definition.specs.Edges.{State}
use Rattle.definition.specs.Building.{each, fall}
use Rattle.edge.specs.declared.Filled.{Filled}
use Rattle.edge.specs.Answers.{Answer, fits}
use Rattle.words.specs.Given.{size_in, Prepared}
use Rattle.passes.specs.Reached.{addressable, Somewhere, Rooms, Reaches}
use Rattle.passes.specs.Starts.{Began}
use Rattle.second_pass.specs.Fallback.{chars_in, Own}

-- The first pass is done: the tables are as they were checked, the text's bytes are its own, an offset reaches what is
-- used with a fallback for each character, what is lent stands for a world, and starts tell how many edges each found
abbrev pub FallReady : List ℕ → List ℕ → List ℕ → List ℕ → List ℕ → List ℕ → List ℕ → List ℕ → Filled → Type 0
FallReady rules ready text line slots room places starts filled =
    Prepared rules ready × Own text (chars_in line) × (filled.used + size_in line * most_bytes < addressable)
    × Somewhere ready line slots room places filled × Began slots room (size_in line) starts (fits filled.count filled.used)

module _ (rules ready code line : List ℕ) (filled : Filled) where
  -- One fallback at most, by the definition's step `f`, whatever the vowel table: no fallback asks it
  abbrev pub FallsBack : (Tables → Text → State → State) → Rooms → Rooms → Answer → Type 0
  FallsBack f before after r = (vowels : List ℕ) → Reaches rules ready vowels code line before after filled (filled.used + most_bytes) f r

  -- The whole pass: behind the edges that are there it reaches where the definition's `fall` of every start leads
  abbrev pub SecondPass : Rooms → Rooms → Answer → Type 0
  SecondPass before after r =
      (vowels : List ℕ)
      → Reaches rules ready vowels code line before after filled (filled.used + size_in line * most_bytes) (λ D t. each (fall D t) (length t) 0) r
