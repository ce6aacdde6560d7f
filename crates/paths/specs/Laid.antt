-- Edges as a path needs them.
use Rattle.std.specs.Prelude.{ℕ, ◌+◌, ◌≤◌, List, length}
use Rattle.definition.specs.Limits.{most_characters}
use Rattle.edge.specs.Asked.{Readable}
use Rattle.standing.specs.Stands.{Stands}

-- they can be read, `starts` tells where they stand, and the text has no more characters than a text may have
pub record Laid (slots room starts : List ℕ) (count : ℕ) : Type 0 where
  pub read : Readable slots room count
  pub stands : Stands slots starts count
  pub short : length starts ≤ most_characters + 1
