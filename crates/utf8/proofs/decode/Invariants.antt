-- `utf8::decode`: what is left to do leads where the whole leads (`Walk`), and each turn keeps that.
use Prim.Native.Nat.{◌-◌}
use lib.ListN.{length}
use Rattle.utf8.proofs.Walks.{Walk}
use Rattle.utf8.proofs.decode.Given as goal

abbrev pub invariant-loop-at : goal.invariant-loop-at
invariant-loop-at l = Walk l.text l.initial.chars l.chars l.at l.n

abbrev pub decreases-loop-at : goal.decreases-loop-at
decreases-loop-at l = length l.text - l.at
