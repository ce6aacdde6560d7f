-- `rule_table::put_offset`
use native.Mathlib.Omega.{arith}
use Rattle.rule_table.specs.Index.{entered-over}
use Rattle.rule_table.proofs.put_offset.Goals as goal

pub returns-then-index-k : goal.returns-then-index-k
returns-then-index-k c = entered-over _ _ _ (omega arith)
