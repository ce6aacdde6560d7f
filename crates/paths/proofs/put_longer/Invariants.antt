-- `paths::put_longer`: ends that no edge has are passed over, and so each turn writes the next longest edges.
use Prim.Native.Nat.{◌+◌, ◌-◌, ◌*◌, ◌≤◌}
use mathlib.Core.Bool.{true}
use mathlib.Core.Path.{◌≡◌}
use lib.ListN.{length}
use Rattle.definition.specs.Paths.{longer}
use Rattle.edge.specs.Slots.{edges_of}
use Rattle.listing.specs.Sizes.{rows_most}
use Rattle.listing.specs.Items.{put_items}
use Rattle.paths.proofs.put_longer.Given as goal

abbrev pub invariant-loop-e : goal.invariant-loop-e
invariant-loop-e l =
    (put_items true (longer (edges_of l.room l.count l.slots) l.p (l.e - l.p)) (l.end, l.out) ≡ put_items true (longer (edges_of l.room l.count l.slots) l.p (l.n - l.p)) (l.at, l.initial.out))
    × (l.p ≤ l.e) × (l.e ≤ l.n) × (l.end ≤ l.at + (l.n - l.e) * rows_most) × (length l.out ≡ length l.initial.out)

abbrev pub decreases-loop-e : goal.decreases-loop-e
decreases-loop-e l = l.e
