-- `noting::add_edge`: an edge that did not fit leaves the places.
use Rattle.noting.specs.Noting.{refused-exit, after-refused}
use Rattle.noting.proofs.add_edge.Goals as goal

pub returns-in_err-taken-clause-places : goal.returns-in_err-taken-clause-places
returns-in_err-taken-clause-places c =
    after-refused c.from_residual.result (refused-exit _ c.from_residual.result c.from_residual.ensures.1)
    c.args.filled.count c.args.e c.args.end c.args.places.now
