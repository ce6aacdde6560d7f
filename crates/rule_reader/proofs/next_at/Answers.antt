-- `rule_reader::next_at`: behind the row by its size, or at the end.
use mathlib.Core.Path.{ap, ◌∙◌}
use Prim.Native.Nat.{◌+◌}
use native.Mathlib.Omega.{arith}
use Rattle.rule_reader.specs.Here.{none-next, next-by}
use Rattle.rule_reader.proofs.next_at.Goals as goal

pub returns-then-table-at : goal.returns-then-table-at
returns-then-table-at c = none-next _ _ (omega arith)

pub returns : goal.returns
returns c =
    let a = c.args in
    ap (λ n. a.at + n) c.min.ensures ∙ next-by a.table.now a.at (omega arith) c.size.result c.size.ensures.0
