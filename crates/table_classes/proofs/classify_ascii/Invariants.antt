-- `table_classes::classify_ascii`: the first `i` are written, the rest is as it was.
use Prim.Native.Nat.{◌≤◌}
use mathlib.Core.Path.{◌≡◌}
use mathlib.Core.List.{◌++◌}
use lib.ListN.{length, take, drop}
use Rattle.table_classes.specs.Told.{alphas_of}
use Rattle.table_classes.proofs.classify_ascii.Given as goal

abbrev pub invariant-loop-i : goal.invariant-loop-i
invariant-loop-i l =
    (l.i ≤ 128) × (l.alphas ≡ take l.i (alphas_of l.classes) ++ drop l.i l.initial.alphas) × (length l.alphas ≡ 128)
