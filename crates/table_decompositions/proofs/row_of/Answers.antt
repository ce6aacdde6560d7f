-- `table_decompositions::row_of`: the row is the one at which a walk stands, or a later one (`Begun`).
use native.Mathlib.Omega.{arith}
use lib.ListN.{drop}
use Rattle.definition.specs.DecompositionLaws.{decomposition_moves}
use Rattle.table_decompositions.specs.Search.{begun-next}
use Rattle.table_decompositions.specs.Told.{found_below, found-over, found-past, found_here}
use Rattle.table_decompositions.proofs.row_of.Goals as goal

pub returns-then-c-three : goal.returns-then-c-three
returns-then-c-three c = let s = c in found_below s.args.table.now s.args.c s.requires _ c.three.ensures.0 (omega arith)

pub returns-then-d-c : goal.returns-then-d-c
returns-then-d-c c =
    let l = c in
    found_here ((l.args.table.now)) ((l.args.c)) l.loop-at.at l.loop-at.invariant (omega arith) _ c.three-d.ensures.0 (omega arith)

pub returns-then-c-d : goal.returns-then-c-d
returns-then-c-d c =
    let l = c in
    found-past ((l.args.table.now)) ((l.args.c)) l.loop-at.at l.loop-at.invariant (omega arith) _ c.three-d.ensures.0 (omega arith)

pub loop-at-smaller : goal.loop-at-smaller
loop-at-smaller c = let l = c in omega (arith, decomposition_moves (drop l.loop-at.at ((l.args.table.now))))

pub loop-at-preserved : goal.loop-at-preserved
loop-at-preserved c =
    let l = c in
    begun-next ((l.args.table.now)) ((l.args.c)) l.loop-at.at _ (omega arith) (λ e. omega arith) c.size-at.ensures.0 l.loop-at.invariant

pub returns : goal.returns
returns c = let l = c in found-over ((l.args.table.now)) ((l.args.c)) l.loop-at.at l.loop-at.invariant (omega arith)
