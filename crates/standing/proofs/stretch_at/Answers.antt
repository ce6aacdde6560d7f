-- `standing::stretch_at`: to the end of the first pass, or to where the search stood three starts on.
use native.Mathlib.Omega.{arith}
use Rattle.standing.specs.Starts.{stretch-last, stretch-short}
use Rattle.standing.proofs.stretch_at.Goals as goal

pub returns-then-n-p : goal.returns-then-n-p
returns-then-n-p c =
    let a = c.args in
    stretch-last a.starts.now a.p _ _ c.begun_at-first.ensures.0 c.begun_at.ensures.0 (omega arith)

pub returns : goal.returns
returns c =
    let a = c.args in
    stretch-short a.starts.now a.p _ _ c.begun_at-first.ensures.0 c.begun_at-2.ensures.0 (omega arith)
