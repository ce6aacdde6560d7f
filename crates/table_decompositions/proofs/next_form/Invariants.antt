-- `table_decompositions::next_form`: characters below the first row's and those of the gap are passed, and one that lies in none gives an edge.
use mathlib.Core.Path.{◌≡◌}
use Prim.Native.Nat.{◌-◌, ◌≤◌}
use Rattle.definition.specs.DecompositionRows.{decompositions_of}
use Rattle.table_decompositions.specs.Gaps.{Empty}
use Rattle.table_decompositions.specs.Next.{next_form}
use Rattle.table_decompositions.proofs.next_form.Given as goal

abbrev pub invariant-loop-q : goal.invariant-loop-q
invariant-loop-q l =
    Empty l.table l.gap × (next_form (decompositions_of l.table) l.line (l.n - l.q) l.q ≡ next_form (decompositions_of l.table) l.line (l.n - l.p) l.p) × (l.q ≤ l.n)
