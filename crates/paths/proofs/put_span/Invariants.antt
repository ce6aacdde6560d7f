-- `paths::put_span`: what was written and the slots still to come leave what all slots leave.
use Prim.Native.Nat.{◌+◌, ◌-◌, ◌*◌, ◌≤◌}
use mathlib.Core.Bool.{true}
use mathlib.Core.Path.{◌≡◌}
use lib.ListN.{length, drop}
use Rattle.definition.specs.Limits.{slot_bytes}
use Rattle.edge.specs.Slots.{edges_of}
use Rattle.edge.specs.Asked.{Readable}
use Rattle.listing.specs.Sizes.{row_most}
use Rattle.listing.specs.Items.{put_items}
use Rattle.paths.specs.Orders.{over}
use Rattle.paths.proofs.put_span.Given as goal

abbrev pub invariant-loop-number : goal.invariant-loop-number
invariant-loop-number l =
    (put_items true (over (edges_of l.room (l.count - l.number) (drop (l.number * slot_bytes) l.slots)) l.p l.e) (l.end, l.out)
    ≡ put_items true (over (edges_of l.room l.count l.slots) l.p l.e) (l.at, l.initial.out))
    × Readable (drop (l.number * slot_bytes) l.slots) l.room (l.count - l.number) × (l.end ≤ l.at + l.number * row_most) × (length l.out ≡ length l.initial.out)
