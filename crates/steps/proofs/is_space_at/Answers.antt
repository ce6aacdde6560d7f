-- `steps::is_space_at`: the number in the line is the character; the end of the text has none.
use native.Mathlib.Omega.{arith}
use mathlib.Core.Path.{◌∙◌}
use borrow.Author.Tests.{le-ltb}
use Rattle.steps.proofs.Spaces.{space_told, no_space_past}
use Rattle.words.specs.Given.{line-size}
use Rattle.steps.proofs.is_space_at.Goals as goal

pub returns-then-p-text_len : goal.returns-then-p-text_len
returns-then-p-text_len c = λ u g.
    space_told g c.args.p (omega (arith, line-size g, c.text_len.ensures)) c.number_at.ensures

pub returns-else-p-text_len : goal.returns-else-p-text_len
returns-else-p-text_len c = λ u g.
    le-ltb c.args.p c.text_len.result c.if-p-text_len.false ∙ no_space_past g c.args.p (omega (arith, line-size g, c.text_len.ensures))
