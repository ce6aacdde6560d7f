-- `o_ang::is_after_side`: the walk goes on from where it has come to as from its start, and ends where the definition's does.
use mathlib.Core.Path.{◌≡◌}
use Prim.Native.Nat.{◌≤◌}
use Rattle.definition.specs.Expansion.{walk_start}
use Rattle.edge_places.specs.Behind.{Walked}
use Rattle.words.specs.Given.{World, Lent}
use Rattle.words.specs.Choosing.{choices_of}
use Rattle.o_ang.proofs.is_after_side.Given as goal

abbrev pub invariant-loop-at : goal.invariant-loop-at
invariant-loop-at l =
    ((x : World) → Lent x l.line l.places → let c = choices_of l.choices in
    Walked x.edges (walk_start c x.text l.p) l.p l.at × (walk_start c x.text l.clear ≡ walk_start c x.text l.p))
    × (l.at ≤ l.clear) × (l.clear ≤ l.p)

abbrev pub decreases-loop-at : goal.decreases-loop-at
decreases-loop-at l = l.at
