-- `table_decompositions::low_of`: from the first row on any, else that of the row there.
use mathlib.Core.Path.{sym, ◌∙◌}
use borrow.Author.Tests.{eq-eqb, ne_eqb}
use Rattle.definition.specs.Blocks.{head_bytes}
use Rattle.table_decompositions.specs.Search.{low_first, low-own}
use Rattle.table_decompositions.proofs.low_of.Goals as goal

pub returns-then-at-eq-HEAD_BYTES : goal.returns-then-at-eq-HEAD_BYTES
returns-then-at-eq-HEAD_BYTES c = let a = c.args in sym (low_first a.table.now a.at (eq-eqb a.at head_bytes c.if-at-eq-HEAD_BYTES.true))

pub returns : goal.returns
returns c =
    let e = c in
    let a = e.args in
    c.three.ensures.0 ∙ sym (low-own a.table.now a.at (ne_eqb a.at head_bytes e.if-at-eq-HEAD_BYTES.false))
