use Rattle.std.proofs.Common.{rules}
use Rattle.lent_input.proofs.Filled.{more, kept}
use Rattle.lent_input.proofs.read_full.Goals as goal
use Rattle.lent_input.proofs.read_full.Goals.{in-Ok, in-Err}

pub loop-preserved : goal.loop-preserved
loop-preserved g c = elim c.match-read.branch [
  | in-Ok w ↦
      let given = w.in-Ok.ensures in (
        search rules,
        rw w.done-is (more _ _ _ _ _ _ _ _ c.loop.invariant.0 given.bound.0 c.loop.invariant.1 given.bytes.0),
      )
  | in-Err w ↦
      (search rules, rw w.done-is (kept _ _ _ _ _ _ _ c.loop.invariant.0 c.loop.invariant.1 w.in-Err.ensures.bytes))
]
