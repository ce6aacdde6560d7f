-- `rom::keep`: the first `i` bytes are those of the part with zeros behind it.
use mathlib.Core.List.{◌++◌}
use mathlib.Core.Path.{◌≡◌}
use Prim.Native.Nat.{◌-◌}
use lib.ListN.{length, take, drop}
use lib.Seq.{slice}
use Rattle.definition.specs.Limits.{most_bytes}
use Rattle.rom.specs.Rom.{zeros}
use Rattle.rom.proofs.keep.Given as goal

abbrev pub invariant-loop-i : goal.invariant-loop-i
invariant-loop-i l =
    (length l.bytes ≡ length l.initial.bytes)
    × (l.bytes ≡ take l.i (slice l.from l.to (take l.n l.initial.bytes) ++ zeros (most_bytes - (l.to - l.from))) ++ drop l.i l.initial.bytes)
