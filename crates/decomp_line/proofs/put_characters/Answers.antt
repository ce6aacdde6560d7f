-- `decomp_line::put_characters`: what is left to put leads where all lead (`Putting`), and each turn keeps that.
use native.Mathlib.Omega.{arith}
use lib.ListN.{drop}
use Rattle.definition.specs.DecompositionLaws.{into-length}
use Rattle.decomp_line.specs.Rows.{putting_next, putting_over}
use Rattle.decomp_line.proofs.put_characters.Goals as goal

pub loop-i-preserved : goal.loop-i-preserved
loop-i-preserved c =
    let i = c.loop-i.invariant in
    let s = drop c.args.row c.args.table.now in
    putting_next i (omega (arith, into-length s, c.requires)) c.into_at.result c.into_at.ensures

pub returns : goal.returns
returns c =
    let i = c.loop-i.invariant in
    let s = drop c.args.row c.args.table.now in
    putting_over i (omega (arith, into-length s, c.requires))
