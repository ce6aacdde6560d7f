-- `table_decompositions::gap_of`: rows that the walk has passed are below `first`, and the one that it stands at is not.
use Prim.Native.Nat.{ℕ, ◌-◌, ◌≤◌, ◌<◌}
use lib.ListN.{length, drop}
use Rattle.definition.specs.DecompositionRows.{decomposition_char}
use Rattle.table_decompositions.specs.Search.{Begun}
use Rattle.table_decompositions.proofs.gap_of.Given as goal

abbrev pub invariant-loop-at : goal.invariant-loop-at
invariant-loop-at l =
    ((x : ℕ) → l.first ≤ x → Begun l.table x l.at) × (l.first ≤ l.c) × (l.at < length l.table → l.first ≤ decomposition_char (drop l.at l.table))

abbrev pub decreases-loop-at : goal.decreases-loop-at
decreases-loop-at l = length l.table - l.at
