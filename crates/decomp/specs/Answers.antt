-- What a start answers: how many edges there are now and how much room they take, or which edge did not fit.
use Rattle.std.specs.Prelude.{ℕ, Result, Ok, Err}
use Rattle.edge.specs.declared.Taken.{Taken}
use Rattle.edge.specs.declared.Full.{Full}
use Rattle.edge.specs.declared.Full.TheVariants as full
use Rattle.edge.specs.Answers.{Answer}
use Rattle.decomp.specs.declared.Unfit.{Unfit}
use Rattle.decomp.specs.declared.Unfit.TheVariants.{Slots, Room}

abbrev pub Grew : Type 0
Grew = Result Taken Unfit

-- an edge that found no slot or too little room
abbrev pub unfit : Full → Unfit
unfit (full.Slots p) = Slots p
unfit (full.Room p) = Room p

-- the same of the character at `p`
abbrev pub unfit_at : Full → ℕ → Unfit
unfit_at (full.Slots q) p = Slots p
unfit_at (full.Room q) p = Room p

-- what adding an edge answered
abbrev pub as_grew : Answer → Grew
as_grew (Ok t) = Ok t
as_grew (Err f) = Err (unfit f)
