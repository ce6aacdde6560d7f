-- `standing::fall_at`: one entry is written.
use Rattle.standing.specs.Starts.{fell}
use mathlib.Core.Path.{refl}
use Rattle.standing.proofs.fall_at.Goals as goal

pub returns : goal.returns
unfolding fell
returns c = refl
