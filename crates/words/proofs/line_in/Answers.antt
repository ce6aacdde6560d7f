-- `words::line_in`: all behind what was made ready.
use Prim.Native.Nat.{◌-◌}
use native.Mathlib.Omega.{arith}
use lib.ListN.{length, drop, length-drop}
use lib.Seq.{take_all}
use Rattle.words.specs.Given.{all_ready}
use Rattle.words.proofs.line_in.Goals as goal

pub returns : goal.returns
returns c = let r = c.args.prepared.now in take_all (length r - all_ready) (drop all_ready r) (omega (arith, length-drop all_ready r))
