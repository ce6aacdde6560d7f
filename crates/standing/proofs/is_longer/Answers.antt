-- `standing::is_longer`: by the ends.
use mathlib.Core.Path.{ap, ◌∙◌}
use lib.Dec.{ltb}
use Rattle.edge.specs.Slots.{edge_by, numbers_of}
use Rattle.standing.specs.Right.{longer}
use Rattle.standing.proofs.is_longer.Goals as goal

pub returns : goal.returns
unfolding longer edge_by numbers_of
returns c = λ room. ap (λ n. ltb n c.two-2.result) c.two.ensures.0 ∙ ap (ltb _) c.two-2.ensures.0
