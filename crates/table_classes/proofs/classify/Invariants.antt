-- `table_classes::classify`: the first `i` places of the second half are written, and `kind` is the class of `known`.
use Prim.Native.Nat.{◌+◌, ◌≤◌}
use mathlib.Core.Path.{◌≡◌}
use lib.ListN.{length}
use Rattle.definition.specs.ClassRows.{classes_of}
use Rattle.definition.specs.Classes.{class}
use Rattle.table_classes.specs.Told.{packed}
use Rattle.table_classes.proofs.Halves.{Written}
use Rattle.table_classes.proofs.classify.Given as goal

abbrev pub invariant-loop-i : goal.invariant-loop-i
invariant-loop-i l =
    (l.i ≤ l.half) × (l.half + l.half ≡ length l.initial.line) × (length l.line ≡ length l.initial.line)
    × Written (λ k. packed (class (classes_of l.classes) k)) l.initial.line l.half l.i l.line
    × (l.kind ≡ packed (class (classes_of l.classes) l.known))
