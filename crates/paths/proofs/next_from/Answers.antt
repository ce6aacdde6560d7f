-- `paths::next_from`: the slot that was answered holds the end.
use mathlib.Core.Path.{sym, ap, ◌∙◌}
use native.Mathlib.Omega.{arith}
use Rattle.definition.specs.Paths.{next}
use Rattle.edge.specs.Slots.{edge_by, numbers_of}
use Rattle.edge.specs.Best.{best_means}
use Rattle.paths.proofs.next_from.Goals as goal

pub returns-in-Some : goal.returns-in-Some
unfolding edge_by numbers_of
returns-in-Some c =
    (λ room. c.two.ensures.0 ∙ ap (λ b. next (best_means room c.args.slots.now b) c.args.p) (sym c.in-Some.is), omega (arith, c.two.ensures.1))
