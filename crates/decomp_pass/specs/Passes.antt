-- What the first pass needs of what it is lent, and what it promises.
use Rattle.std.specs.Prelude.{Ok, Err, ℕ, ◌+◌, ◌*◌, List, ◌≡◌, length, replicate}
use Rattle.definition.specs.Limits.{most_bytes, most_edges}
use Rattle.definition.specs.Building.{each}
use Rattle.definition.specs.Decomposing.{start}
use Rattle.words.specs.Given.{size_in}
use Rattle.words.specs.declared.given.Dicts.{Dicts}
use Rattle.passes.specs.Reached.{nothing, Somewhere, Rooms}
use Rattle.passes.specs.Starts.{Began}
use Rattle.decomp.specs.Answers.{Grew}
use Rattle.decomp.specs.Grown.{GrowsAt}
use Rattle.decomp.specs.Rows.{Formable}

module _ (dicts : Dicts) (line slots room places : List ℕ) where
  -- there is no edge yet, of no start anything is told, and the world's classes are those that are lent
  pub record PassReady (noted : List ℕ) : Type 0 where
    pub forms : Formable dicts
    pub somewhere : Somewhere dicts.ready.now line slots room places nothing
    pub same : somewhere.world.classes ≡ dicts.classes.now
    pub starts : noted ≡ replicate (size_in line + 1) 0

-- The whole pass: from no edge it reaches where the definition's `start` of every start leads
abbrev pub Passes : Dicts → List ℕ → Rooms → Rooms → Grew → Type 0
Passes dicts line before after r =
    GrowsAt dicts dicts.code.now line before after nothing 0 (size_in line * (most_edges * most_bytes))
    (λ D ds t. each (start D ds t) (length t) 0) r

-- what starts tell then
abbrev pub Begins : List ℕ → List ℕ → ℕ → List ℕ → Grew → Type 0
Begins slots room n starts (Ok t) = Began slots room n starts (Ok t)
Begins slots room n starts (Err f) = Unit {0}
