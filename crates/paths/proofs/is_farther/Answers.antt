-- `paths::is_farther`: start, then bound, then the best so far.
use mathlib.Core.Bool.{Bool, ◌&&◌}
use mathlib.Core.Path.{sym, ap, ◌∙◌}
use native.Mathlib.Omega.{arith}
use lib.Dec.{ltb}
use lib.ListN.{drop}
use borrow.Author.Tests.{eq-eqb, ne_eqb, lt-ltb, le-ltb}
use Rattle.edge.specs.Slots.{from_of, to_of, edge_by, numbers_of}
use Rattle.paths.specs.Orders.{farther}
use Rattle.paths.proofs.is_farther.Goals as goal

pub returns-then-two-p : goal.returns-then-two-p
unfolding farther edge_by numbers_of
returns-then-two-p c =
    let s = drop c.args.slot c.args.slots.now in λ room.
    sym (ap (λ (b : Bool). b && ltb (to_of s) c.args.bound && ltb c.args.best (to_of s)) (ne_eqb (from_of s) c.args.p (λ e. omega (arith, e))))

pub returns-then-end-bound : goal.returns-then-end-bound
unfolding farther edge_by numbers_of
returns-then-end-bound c =
    let s = drop c.args.slot c.args.slots.now in
    let t = to_of s in λ room.
    ap (ltb c.args.best) c.two-end.ensures.0
    ∙ sym (ap (λ (b : Bool). b && ltb t c.args.bound && ltb c.args.best t) (eq-eqb (from_of s) c.args.p (omega arith))
    ∙ ap (λ (b : Bool). b && ltb c.args.best t) (lt-ltb t c.args.bound (omega arith)))

pub returns-else-end-bound : goal.returns-else-end-bound
unfolding farther edge_by numbers_of
returns-else-end-bound c =
    let s = drop c.args.slot c.args.slots.now in
    let t = to_of s in λ room.
    le-ltb c.two-end.result c.args.bound (omega arith)
    ∙ sym (ap (λ (b : Bool). b && ltb t c.args.bound && ltb c.args.best t) (eq-eqb (from_of s) c.args.p (omega arith))
    ∙ ap (λ (b : Bool). b && ltb c.args.best t) (le-ltb t c.args.bound (omega arith)))
