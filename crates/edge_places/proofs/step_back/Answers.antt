-- `edge_places::step_back`
use native.Mathlib.Omega.{arith}
use Prim.Native.Nat.{ℕ, ◌-◌}
use mathlib.Core.Path.{ap, ◌∙◌}
use Rattle.edge_places.specs.Behind.{none-back, one-back}
use Rattle.edge_places.proofs.step_back.Goals as goal

pub returns-then-back-eq0 : goal.returns-then-back-eq0
returns-then-back-eq0 c = let a = c.args in c.saturating_sub.ensures ∙ ap (λ (k : ℕ). a.at - k) (none-back a.x (omega arith))

pub returns : goal.returns
returns c = let a = c.args in c.saturating_sub-2.ensures ∙ ap (λ (k : ℕ). a.at - k) (one-back a.x (λ e. omega arith))
