-- What starts tell after both passes.
use Rattle.std.specs.Prelude.{Ok, Err, ℕ, List}
use Rattle.edge.specs.Answers.{Answer}
use Rattle.standing.specs.Stands.{Stands}

-- where the edges of each stand
abbrev pub Standing : List ℕ → List ℕ → Answer → Type 0
Standing slots starts (Ok t) = Stands slots starts t.count
Standing slots starts (Err f) = Unit {0}
