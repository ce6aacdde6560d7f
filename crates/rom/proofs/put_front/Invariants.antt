-- `rom::put_front`: the first `i` bytes are those of the array with the letter in front.
use mathlib.Core.List.{◌∷◌, ◌++◌}
use mathlib.Core.Path.{◌≡◌}
use lib.ListN.{length, take, drop, get_or}
use Rattle.rom.proofs.put_front.Given as goal

abbrev pub invariant-loop-i : goal.invariant-loop-i
invariant-loop-i l =
    (length l.bytes ≡ length l.initial.bytes) × (l.bytes ≡ take l.i (l.letter ∷ l.initial.bytes) ++ drop l.i l.initial.bytes) × (l.next ≡ get_or (l.letter ∷ l.initial.bytes) l.i 0)
