-- `o_ang::has_space`: from the right, the first space is where the stretch begins.
use mathlib.Core.Path.{◌≡◌}
use Rattle.definition.specs.Expansion.{stretch_start}
use Rattle.words.specs.Given.{World, Lined}
use Rattle.o_ang.proofs.has_space.Given as goal

abbrev pub invariant-loop-i : goal.invariant-loop-i
invariant-loop-i l = (x : World) → Lined x l.line → stretch_start x.text l.i ≡ stretch_start x.text l.to
