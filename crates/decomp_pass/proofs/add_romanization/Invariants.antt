-- `decomp_pass::add_romanization`: what is left of the starts does what all of them do.
use mathlib.Core.Path.{◌≡◌}
use Prim.Native.Nat.{◌-◌}
use lib.ListN.{length}
use Rattle.definition.specs.DecompositionRows.{decompositions_of}
use Rattle.words.specs.Given.{size_in}
use Rattle.table_decompositions.specs.Next.{next_form}
use Rattle.decomp_pass.proofs.Halfway.{Halfway}
use Rattle.decomp_pass.proofs.add_romanization.Given as goal

abbrev pub invariant-loop-at : goal.invariant-loop-at
invariant-loop-at l =
    Halfway l.dicts l.line l.initial.slots l.initial.room l.initial.places l.slots l.room l.places l.starts l.taken.count l.taken.used l.s
    × (l.at ≡ next_form (decompositions_of l.dicts.decompositions.now) l.line (size_in l.line - l.s) l.s)
    × (length l.slots ≡ length l.initial.slots) × (length l.room ≡ length l.initial.room) × (length l.places ≡ length l.initial.places) × (length l.starts ≡ length l.initial.starts)

abbrev pub decreases-loop-at : goal.decreases-loop-at
decreases-loop-at l =
    l.n - l.s
