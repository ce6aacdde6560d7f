-- `paths::put_path`: what was written and what is left of the path leave what the whole path leaves.
use Prim.Native.Nat.{◌+◌, ◌-◌, ◌*◌, ◌≤◌}
use mathlib.Core.Path.{◌≡◌}
use lib.ListN.{length}
use Rattle.definition.specs.Paths.{path_from}
use Rattle.edge.specs.Slots.{edges_of}
use Rattle.listing.specs.Sizes.{row_most}
use Rattle.listing.specs.Items.{put_items}
use Rattle.paths.proofs.put_path.Given as goal

abbrev pub invariant-loop-p : goal.invariant-loop-p
invariant-loop-p l =
    (put_items l.rows (path_from (l.n - l.p) l.p (edges_of l.room l.count l.slots)) (l.end, l.out) ≡ put_items l.rows (path_from l.n 0 (edges_of l.room l.count l.slots)) (l.at, l.initial.out))
    × (l.p ≤ l.n) × (l.end ≤ l.at + l.p * row_most) × (length l.out ≡ length l.initial.out)

abbrev pub decreases-loop-p : goal.decreases-loop-p
decreases-loop-p l = l.n - l.p
