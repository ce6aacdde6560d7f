-- `lent_bytes::part_or_none`: each test leaves a part that runs past the end, or one that doesn't.
use mathlib.Core.Path.{◌∙◌}
use native.Mathlib.Omega.{arith}
use Rattle.lent_bytes.specs.Parts.{part-there, part-past}
use Rattle.lent_bytes.proofs.part_or_none.Goals as goal

pub returns-then-s-at : goal.returns-then-s-at
returns-then-s-at c = let a = c.args in part-past a.s.now a.at a.len (omega arith)

pub returns : goal.returns
returns c =
    let a = c.args in
    c.part.ensures ∙ part-there a.s.now a.at a.len (omega arith)
