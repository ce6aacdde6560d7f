-- `table_decompositions::right_end`
use mathlib.Core.Path.{sym, ◌∙◌}
use native.Mathlib.Omega.{arith}
use lib.Seq.{take-length}
use Rattle.definition.specs.DecompositionLaws.{part-whole}
use Rattle.table_decompositions.specs.Part.{part_up_to, own-part}
use Rattle.table_blocks.specs.Faults.{valid, faulty}
use Rattle.table_decompositions.proofs.right_end.Goals as goal

pub returns-in-Ok : goal.returns-in-Ok
returns-in-Ok c =
    let s = c in
    let b = s.args.table.now in
    (part-whole b (valid s.args.own s.requires _ c.in-Ok.is) ∙ sym (take-length b), omega arith)

pub returns-in-Err : goal.returns-in-Err
returns-in-Err c =
    let s = c in
    let b = s.args.table.now in
    let e = faulty s.args.own s.requires _ c.in-Err.is in
    (part_up_to b _ e, (own-part b _ e).within)
