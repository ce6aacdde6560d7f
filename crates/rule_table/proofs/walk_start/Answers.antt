-- `rule_table::walk_start`: of the entries before `low` the last is one where a walk may begin.
use mathlib.Core.Path.{refl, sym, ◌∙◌}
use native.Mathlib.Omega.{arith}
use Rattle.rule_table.specs.Index.{row_offsets}
use Rattle.rule_table.specs.Seek.{first_at}
use Rattle.rule_table.specs.Entries.{entry_begins}
use Rattle.rule_table.proofs.walk_start.Goals as goal

pub loop-low-preserved-then-is_entry_below : goal.loop-low-preserved-then-is_entry_below
loop-low-preserved-then-is_entry_below c =
    let l = c in
    let s = l in (
      λ k. entry_begins s.args.rules.now s.args.w.now s.requires _ (sym c.is_entry_below.ensures ∙ c.if-is_entry_below.true) _ (omega arith),
      omega arith,
      omega arith,
    )

pub returns-then-low-eq0 : goal.returns-then-low-eq0
unfolding first_at row_offsets
returns-then-low-eq0 c = refl
