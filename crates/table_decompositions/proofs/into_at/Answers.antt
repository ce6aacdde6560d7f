-- `table_decompositions::into_at`
use mathlib.Core.Path.{◌∙◌}
use lib.ListN.{drop}
use Rattle.table_decompositions.proofs.Holding.{into-there}
use Rattle.table_decompositions.proofs.into_at.Goals as goal

pub returns : goal.returns
returns c = let a = c.args in c.three.ensures.0 ∙ into-there (drop a.row a.table.now) a.i c.requires
