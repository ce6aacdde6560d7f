-- `edge_places::is_spoken`
use native.Mathlib.Omega.{arith}
use Rattle.edge_places.specs.Behind.{none_spoken, one_spoken}
use Rattle.edge_places.proofs.is_spoken.Goals as goal

pub returns-then-x-eq0 : goal.returns-then-x-eq0
returns-then-x-eq0 c = none_spoken c.args.x (omega arith)

pub returns : goal.returns
returns c = one_spoken c.args.x (λ e. omega arith)
