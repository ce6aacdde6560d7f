-- `utf8::read_char`: the four bytes are those that the definition reads behind `at`.
use mathlib.Core.Path.{ap, ◌∙◌}
use native.Mathlib.Omega.{arith}
use Rattle.definition.specs.Utf8.{six}
use Rattle.utf8.specs.Read.{char_means}
use Rattle.utf8.proofs.Sequences.{joined, ascii}
use Rattle.utf8.proofs.read_char.Goals as goal

pub returns-then-b-lt128 : goal.returns-then-b-lt128
unfolding char_means
returns-then-b-lt128 c =
    let a = c.args in
    ascii a.text.now a.at _ c.byte-b.ensures.0 (omega arith)

pub returns : goal.returns
returns c =
    let z = c in
    let y = z in
    let x = y in
    let b = x in
    let a = b.args in
    c.sequence.ensures
    ∙ joined a.text.now a.at _ _ _ _ b.byte-b.ensures.0
    (x.six-x.ensures ∙ ap six x.byte.ensures.0)
    (y.six-y.ensures ∙ ap six y.byte-2.ensures.0)
    (z.six-z.ensures ∙ ap six z.byte-3.ensures.0)
