-- `edge::is_there`: the first have none like it; those still to come have one where all have.
use Rattle.std.proofs.Common.{◌≡◌, ◌-◌, ◌*◌, drop}
use Rattle.base.specs.Lists.{any}
use Rattle.definition.specs.Limits.{slot_bytes}
use Rattle.edge.specs.Slots.{edge_by, edges_of}
use Rattle.edge.specs.Adding.{there}
use Rattle.edge.specs.Asked.{Readable}
use Rattle.edge.proofs.Alikes.{like}
use Rattle.edge.proofs.is_there.Given as goal

abbrev pub invariant-loop-number : goal.invariant-loop-number
invariant-loop-number l =
    (any (like l.e l.text) (edges_of l.room (l.fn.filled.count - l.number) (drop (l.number * slot_bytes) l.slots))
    ≡ there (edges_of l.room l.fn.filled.count l.slots) (edge_by l.e l.text))
    × Readable (drop (l.number * slot_bytes) l.slots) l.room (l.fn.filled.count - l.number)
