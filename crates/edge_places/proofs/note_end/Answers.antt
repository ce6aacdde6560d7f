-- `edge_places::note_end`
use mathlib.Core.Path.{ap, ◌∙◌}
use Prim.Native.Nat.{ℕ, ◌-◌}
use lib.ListN.{set}
use Rattle.edge_places.specs.Entry.{noted}
use Rattle.edge_places.specs.Shows.{noted_end}
use Rattle.edge_places.proofs.note_end.Goals as goal

pub returns : goal.returns
unfolding noted_end
returns c = let a = c.args in ap (set a.places.now a.to) (c.noted.ensures ∙ ap (λ (x : ℕ). noted x (a.to - a.from) a.end) c.entry.ensures)
