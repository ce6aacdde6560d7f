-- `marks::may_hold`: a text that was marked has each of its cells.
use Rattle.std.proofs.Common.{sym, ◌∙◌}
use Rattle.marks.specs.Marked.{by_first, by_second, by_third, unheld}
use Rattle.marks.proofs.may_hold.Goals as goal
use Rattle.marks.proofs.may_hold.Goals.{then-is_set, else-is_set}

pub returns-then-is_set-2 : goal.returns-then-is_set-2
returns-then-is_set-2 c =
    let a = c.args in
    let h = c.hash-h in
    let q = c.is_set-then-is_set-2 in
    unheld a.cells.now a.w.now by_third (λ u m. m.third) h.result h.ensures q.result q.ensures

pub returns-else-is_set-2 : goal.returns-else-is_set-2
returns-else-is_set-2 c =
    let a = c.args in
    let h = c.hash-h in λ ws m z.
    elim c.if-is_set.branch [
      | then-is_set w ↦
          let q = w.is_set-then-is_set in
          unheld a.cells.now a.w.now by_second (λ u m. m.second) h.result h.ensures q.result q.ensures ws m (sym w.value-is ∙ z)
      | else-is_set w ↦
          unheld a.cells.now a.w.now by_first (λ u m. m.first) h.result h.ensures c.is_set.result c.is_set.ensures ws m w.if-is_set.false
    ]
