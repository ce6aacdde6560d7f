-- `edge::put_slot`: the twelve bytes, put there.
use Rattle.base.specs.Big.{two, three, four}
use Rattle.edge.specs.Slots.{slot_of}
use Rattle.edge.proofs.put_slot.Goals as goal

pub returns : goal.returns
unfolding slot_of two three four
returns c = c.put_at.ensures
