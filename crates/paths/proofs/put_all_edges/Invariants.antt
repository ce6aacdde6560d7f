-- `paths::put_all_edges`: what was written and the starts still to come leave what all starts leave.
use Prim.Native.Nat.{◌+◌, ◌-◌, ◌*◌, ◌≤◌}
use mathlib.Core.Bool.{true}
use mathlib.Core.Path.{◌≡◌}
use lib.ListN.{length}
use Rattle.definition.specs.Paths.{sorted}
use Rattle.edge.specs.Slots.{edges_of}
use Rattle.listing.specs.Sizes.{start_most}
use Rattle.listing.specs.Items.{put_items}
use Rattle.paths.proofs.put_all_edges.Given as goal

abbrev pub invariant-loop-p : goal.invariant-loop-p
invariant-loop-p l =
    (put_items true (sorted (edges_of l.room l.count l.slots) (l.n - l.p) l.p) (l.end, l.out) ≡ put_items true (sorted (edges_of l.room l.count l.slots) l.n 0) (l.at, l.initial.out))
    × (l.end ≤ l.at + l.p * start_most) × (length l.out ≡ length l.initial.out)
