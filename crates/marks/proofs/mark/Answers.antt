-- `marks::mark`: its three cells are set, and those of the texts before stay.
use Rattle.marks.specs.Marked.{marked_more}
use Rattle.marks.proofs.mark.Goals as goal

pub returns : goal.returns
returns c =
    let third = c in
    let second = third in
    let first = second in
    let h = first in
    let a = h.args in
    marked_more a.cells.now first.set_cell.new.cells second.set_cell-2.new.cells third.set_cell-3.new.cells a.w.now h.hash-h.result h.hash-h.ensures
    first.set_cell.ensures second.set_cell-2.ensures third.set_cell-3.ensures
