-- `table_decompositions::size`
use mathlib.Core.Path.{ap}
use Prim.Native.Nat.{ℕ, ◌+◌, ◌*◌}
use native.Mathlib.Omega.{arith}
use Rattle.definition.specs.DecompositionRows.{decomposition_size}
use Rattle.table_decompositions.proofs.size.Goals as goal

pub returns : goal.returns
unfolding decomposition_size
returns c = (ap (λ (n : ℕ). 5 + 3 * n) c.count.ensures.0, omega arith)
