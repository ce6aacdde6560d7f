-- `table_decompositions::edge_row_of`
use native.Mathlib.Omega.{arith}
use Rattle.table_decompositions.specs.Told.{edge_none, edge_other}
use Rattle.table_decompositions.proofs.edge_row_of.Goals as goal

pub returns-then-row-eq0 : goal.returns-then-row-eq0
returns-then-row-eq0 c = let a = c.args in edge_none a.table.now a.c _ c.row_of-row.ensures (omega arith)

pub returns : goal.returns
returns c =
    let a = c.args in
    edge_other a.table.now a.c _ c.row_of-row.ensures (omega arith) _ c.at.ensures.0 (λ e. omega arith)
