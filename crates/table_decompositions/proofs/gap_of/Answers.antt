-- `table_decompositions::gap_of`: rows that the walk has passed are below `first`, and the one that it stands at is not.
use Prim.Native.Nat.{◌<◌}
use native.Mathlib.Omega.{arith}
use lib.ListN.{length, drop}
use Rattle.definition.specs.DecompositionLaws.{decomposition_moves}
use Rattle.table_decompositions.specs.Search.{low_below}
use Rattle.table_decompositions.specs.Gaps.{gap-over, gap-before, gap-none, gap-own, gap_on, gap-next}
use Rattle.table_decompositions.proofs.gap_of.Goals as goal

pub loop-at-init : goal.loop-at-init
loop-at-init c =
    let w = c.walk_start-at in
    let s = c in
    let low = c.low_of-first.ensures in
    let near = low_below s.args.table.now w.result in
    let small = w.ensures.low in
    (λ x l. w.ensures.begun x (omega (arith, low, l)), omega (arith, low, small), λ l. omega (arith, low, near))

pub returns-then-c-d : goal.returns-then-c-d
returns-then-c-d c =
    let l = c in
    let i = l.loop-at.invariant in
    gap-before ((l.args.table.now)) ((l.args.c)) l.loop-at.at l.loop-at.first i.1 i.0 (omega arith) _ c.three-d.ensures.0 (omega arith)

pub returns-then-at-eq-OTHER : goal.returns-then-at-eq-OTHER
returns-then-at-eq-OTHER c =
    let t = c in
    let l = t in
    let i = l.loop-at.invariant in
    gap-none ((l.args.table.now)) ((l.args.c)) l.loop-at.at l.loop-at.first i.1 i.0 (omega arith) _ t.three-d.ensures.0 (omega arith) _ c.at.ensures.0 (omega arith)

pub returns-then-c-d-2 : goal.returns-then-c-d-2
returns-then-c-d-2 c =
    let t = c in
    let l = t in
    let i = l.loop-at.invariant in
    gap-own ((l.args.table.now)) ((l.args.c)) l.loop-at.at l.loop-at.first i.1 i.0 (omega arith) _ t.three-d.ensures.0 (omega arith) _ c.at.ensures.0 (λ e. omega arith)

pub loop-at-smaller : goal.loop-at-smaller
loop-at-smaller c = let l = c in omega (arith, decomposition_moves (drop l.loop-at.at ((l.args.table.now))))

pub loop-at-preserved : goal.loop-at-preserved
loop-at-preserved c =
    let t = c in
    let l = t in
    let i = l.loop-at.invariant in
    let d = t.three-d.ensures.0 in
    let z = c.size-at.ensures.0 in
    let there : l.loop-at.at < length ((l.args.table.now)) = omega arith in
    let low = i.2 there in (
      gap_on ((l.args.table.now)) ((l.args.c)) l.loop-at.at l.loop-at.first i.1 i.0 there _ d (omega (arith, low, d)) _ z,
      omega arith,
      gap-next ((l.args.table.now)) ((l.args.c)) l.loop-at.at l.loop-at.first i.1 i.0 there _ d _ z,
    )

pub returns : goal.returns
returns c =
    let l = c in
    let i = l.loop-at.invariant in
    gap-over ((l.args.table.now)) ((l.args.c)) l.loop-at.at l.loop-at.first i.1 i.0 (omega arith) _ (omega arith)
