-- `decomp_line::put_bytes`: what is left to write leads where all lead (`Writing`), and each turn keeps that.
use native.Mathlib.Omega.{arith}
use lib.ListN.{drop}
use Rattle.definition.specs.DecompositionLaws.{into-length}
use Rattle.decomp_line.specs.Rows.{writing_next, writing_over, into_few, into-low}
use Rattle.decomp_line.proofs.put_bytes.Goals as goal

pub put_character-at-requires : goal.put_character-at-requires
put_character-at-requires c =
    let i = c.loop-i.invariant in
    let w = into_few c.requires.0 in
    let t = c.loop-i-test.true in
    let k = into-low c.requires.0 c.loop-i.i (omega (arith, i.1, t)) in
    (omega (arith, k, c.into_at.ensures), omega (arith, i.0.most, i.0.long, i.1, w, t, c.requires.1))

pub loop-i-preserved : goal.loop-i-preserved
loop-i-preserved c =
    let i = c.loop-i.invariant in
    let w = into_few c.requires.0 in
    let t = c.loop-i-test.true in (
      writing_next i.0 (omega (arith, into-length (drop c.args.row c.args.table.now), i.1, t)) c.into_at.result c.into_at.ensures
          (omega (arith, i.0.most, i.0.long, i.1, w, t, c.requires.1)) c.put_character-at.new.bytes c.put_character-at.result c.put_character-at.ensures.0 c.put_character-at.ensures.1,
      i.1,
    )

pub returns : goal.returns
returns c =
    let i = c.loop-i.invariant in
    let o = writing_over i.0 (omega (arith, into-length (drop c.args.row c.args.table.now), i.1)) in
    let w = into_few c.requires.0 in
    (o.0, omega (arith, i.0.most, i.0.long, i.1, w, c.requires.1), i.0.long)
