-- `rom::is_between`: the first test settles it, or the second.
use native.Mathlib.Omega.{arith}
use borrow.Author.Tests.{le-leb, lt-leb}
use Rattle.rom.specs.Sets.{between}
use Rattle.rom.proofs.is_between.Goals as goal

pub returns-then-first-c : goal.returns-then-first-c
unfolding between
returns-then-first-c c = let a = c.args in simp (le-leb a.first a.c (omega arith))

pub returns-else-first-c : goal.returns-else-first-c
unfolding between
returns-else-first-c c = let a = c.args in simp (lt-leb a.first a.c (omega arith))
