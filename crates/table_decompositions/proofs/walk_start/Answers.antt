-- `table_decompositions::walk_start`: of the entries before `low` the last is one where a walk may begin.
use mathlib.Core.Path.{sym, ◌∙◌}
use native.Mathlib.Omega.{arith}
use Rattle.table_decompositions.specs.Search.{walks_first, entry_walks}
use Rattle.table_decompositions.proofs.walk_start.Goals as goal

pub loop-low-preserved-then-is_entry_low : goal.loop-low-preserved-then-is_entry_low
loop-low-preserved-then-is_entry_low c =
    let l = c in
    let s = l in (
      λ k. entry_walks s.args.table.now s.args.c s.requires _ (sym c.is_entry_low.ensures ∙ c.if-is_entry_low.true) _ (omega arith),
      omega arith,
      omega arith,
    )

pub returns-then-low-eq0 : goal.returns-then-low-eq0
returns-then-low-eq0 c = let s = c in walks_first s.args.table.now s.args.c s.requires.rows
