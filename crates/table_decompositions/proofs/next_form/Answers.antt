-- `table_decompositions::next_form`: characters below the first row's and those of the gap are passed, and one that lies in none gives an edge.
use mathlib.Core.Path.{refl, sym, ◌∙◌}
use Prim.Native.Nat.{◌+◌}
use native.Mathlib.Omega.{arith}
use lib.ListN.{get_or}
use Rattle.definition.specs.DecompositionRows.{decompositions_of}
use Rattle.table_decompositions.specs.Search.{below_all}
use Rattle.table_decompositions.specs.Gaps.{nowhere, rowless}
use Rattle.table_decompositions.specs.Next.{next_on, next_here, next-over}
use Rattle.table_decompositions.proofs.next_form.Goals as goal
use Rattle.table_decompositions.proofs.next_form.Goals.{then-c-lowest-via-then-c-lowest, then-c-lowest-via-else-c-lowest+then-is_in}

pub loop-q-init : goal.loop-q-init
loop-q-init c = (nowhere c.args.table.now, refl, c.requires.1)

pub loop-q-preserved-then-c-lowest : goal.loop-q-preserved-then-c-lowest
loop-q-preserved-then-c-lowest c =
    let b = c.args.table.now in
    let q = c.loop-q.q in
    let d = get_or c.args.line.now (q + 1) 0 in
    let i = c.loop-q.invariant in
    let on = next_on (decompositions_of b) c.args.line.now c.args.n q (omega arith) in
    let low = c.three-lowest.ensures.0 in
    elim c.then-c-lowest.branch [
      | then-c-lowest-via-then-c-lowest w ↦
          (i.0, on (rowless b d (below_all b d c.requires.0.rows (omega (arith, low, w.if-c-lowest.true)))) ∙ i.1, omega arith)
      | then-c-lowest-via-else-c-lowest+then-is_in w ↦
          (i.0, on (i.0 d (sym w.is_in.ensures ∙ w.if-is_in.true)) ∙ i.1, omega arith)
    ]

pub loop-q-preserved : goal.loop-q-preserved
loop-q-preserved c =
    let q = c.loop-q.q in
    let none = c.gap_of-gap.ensures.none-there in (
      none,
      next_on (decompositions_of c.args.table.now) c.args.line.now c.args.n q (omega arith)
          (none (get_or c.args.line.now (q + 1) 0) (sym c.is_in-in-loop-q.ensures ∙ c.if-not-is_in.false)) ∙ c.loop-q.invariant.1,
      omega arith,
    )

pub returns-then-not-is_in : goal.returns-then-not-is_in
returns-then-not-is_in c =
    next_here (decompositions_of c.args.table.now) c.args.line.now c.args.n c.loop-q.q (omega arith)
    (c.gap_of-gap.ensures.own (sym c.is_in-in-loop-q.ensures ∙ c.if-not-is_in.true)) ∙ c.loop-q.invariant.1

pub returns : goal.returns
returns c =
    next-over (decompositions_of c.args.table.now) c.args.line.now c.args.n c.loop-q.q (omega (arith, c.loop-q.invariant.2))
    ∙ c.loop-q.invariant.1
