-- `words::index_in`: all that follows the choices.
use Prim.Native.Nat.{◌-◌}
use native.Mathlib.Omega.{arith}
use lib.ListN.{length, drop, length-drop}
use lib.Seq.{take_all}
use Rattle.words.specs.Given.{index_from}
use Rattle.words.proofs.index_in.Goals as goal

pub returns : goal.returns
returns c = let r = c.args.ready.now in take_all (length r - index_from) (drop index_from r) (omega (arith, length-drop index_from r))
