-- What starts tell after the first pass.
use Rattle.std.specs.Prelude.{Ok, Err, ℕ, ◌+◌, List, ◌≡◌, length}
use Rattle.base.specs.Alls.{All}
use Rattle.edge.specs.Answers.{Answer}
use Rattle.edge.specs.Slots.{edges_of}
use Rattle.standing.specs.Starts.{begun}
use Rattle.standing.specs.Begun.{Begun}
use Rattle.standing.specs.Stands.{Ahead}

-- each start has begun, the last entry is the number of its edges, and each goes forward within the text
abbrev pub Began : List ℕ → List ℕ → ℕ → List ℕ → Answer → Type 0
Began slots room n starts (Ok t) =
    Begun (edges_of room t.count slots) n starts × (begun starts n ≡ t.count) × (length starts ≡ n + 1)
    × All (λ x. Ahead n x.from x.to) (edges_of room t.count slots)
Began slots room n starts (Err f) = Unit {0}
