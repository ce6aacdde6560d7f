-- `edge_places::noted`
use native.Mathlib.Omega.{arith}
use mathlib.Core.Path.{sym, ap, ◌∙◌}
use Prim.Native.Nat.{ℕ}
use Rattle.edge_places.specs.Entry.{lengthened, longer-is, shorter_left}
use Rattle.edge_places.proofs.noted.Goals as goal

pub returns-then-y-back : goal.returns-then-y-back
returns-then-y-back c =
    let a = c.args in
    c.with_longest.ensures ∙ longer-is _ a.back a.end (omega arith) ∙ ap (λ (y : ℕ). lengthened y a.back a.end) c.lettered-y.ensures.0

pub returns : goal.returns
returns c = let a = c.args in sym (shorter_left _ a.back a.end (omega arith)) ∙ ap (λ (y : ℕ). lengthened y a.back a.end) c.lettered-y.ensures.0
