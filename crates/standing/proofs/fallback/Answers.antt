-- `standing::fallback`: by its number among the fallbacks, behind those of the first pass.
use native.Mathlib.Omega.{arith}
use Rattle.standing.specs.Starts.{fallback_none, fallback_some}
use Rattle.standing.proofs.fallback.Goals as goal

pub returns-then-k-eq0 : goal.returns-then-k-eq0
returns-then-k-eq0 c =
    let a = c.args in
    fallback_none a.starts.now a.p _ c.fallen_at-k.ensures.0 (omega arith)

pub returns : goal.returns
returns c =
    let a = c.args in
    fallback_some a.starts.now a.p _ _ c.begun_at-made.ensures.0 c.fallen_at-k.ensures.0 (λ z. omega arith)
