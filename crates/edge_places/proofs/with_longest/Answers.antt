-- `edge_places::with_longest`
use native.Mathlib.Omega.{arith}
use Rattle.edge_places.specs.Entry.{with_longest}
use Rattle.edge_places.proofs.with_longest.Goals as goal

pub returns : goal.returns
unfolding with_longest
returns c = omega arith
