-- `edge_places::remember`: past the end `set` changes nothing, and neither does the code.
use mathlib.Core.Bool.{Bool}
use mathlib.Core.Path.{sym, ap, ◌∙◌}
use Prim.Native.Nat.{ℕ}
use lib.ListN.{set}
use Rattle.base.specs.Pick.{pick}
use Rattle.edge_places.specs.Entry.{with_start}
use Rattle.edge_places.specs.Shows.{remembered}
use Rattle.edge_places.proofs.remember.Goals as goal

pub returns-then-start : goal.returns-then-start
unfolding with_start pick
returns-then-start c =
    let a = c.args in
    ap (λ (x : ℕ). set a.places.now a.p (with_start x 1)) c.entry.ensures
    ∙ sym (ap (λ (s : Bool). remembered a.places.now a.p (pick s 1 2)) c.if-start.true)

pub returns : goal.returns
unfolding with_start pick
returns c =
    let a = c.args in
    ap (λ (x : ℕ). set a.places.now a.p (with_start x 2)) c.entry.ensures
    ∙ sym (ap (λ (s : Bool). remembered a.places.now a.p (pick s 1 2)) c.if-start.false)
