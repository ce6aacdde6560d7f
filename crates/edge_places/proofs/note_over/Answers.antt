-- `edge_places::note_over`
use native.Mathlib.Omega.{arith}
use mathlib.Core.Path.{ap, ◌∙◌}
use Prim.Native.Nat.{ℕ}
use lib.ListN.{set}
use Rattle.edge_places.specs.Entry.{with_over}
use Rattle.edge_places.specs.Shows.{over-one, over-more}
use Rattle.edge_places.proofs.note_over.Goals as goal

pub returns-then-to-from : goal.returns-then-to-from
unfolding with_over
returns-then-to-from c =
    let a = c.args in
    ap (λ (x : ℕ). set a.places.now a.from (with_over x)) c.entry-x.ensures ∙ over-one a.from a.to a.places.now (omega arith)

pub returns-else-to-from : goal.returns-else-to-from
returns-else-to-from c = let a = c.args in over-more a.from a.to a.places.now (λ e. omega arith)
