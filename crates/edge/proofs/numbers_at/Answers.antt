-- `edge::numbers_at`
use Rattle.edge.specs.Slots.{numbers_of}
use Rattle.edge.proofs.numbers_at.Goals as goal

pub returns : goal.returns
unfolding numbers_of
returns c = simp (c.two.ensures.0, c.two-2.ensures.0, c.at.ensures.0, c.at-2.ensures.0)
