-- `passes::ends_in_letter`: what was told of the last byte.
use mathlib.Core.Path.{ap, ◌∙◌}
use native.Mathlib.Omega.{arith}
use lib.Dec.{eqb}
use lib.ListN.{get_or}
use Rattle.rom.proofs.Walks.{no_last, last-there}
use Rattle.words.specs.Goes.{letter_byte}
use Rattle.passes.specs.Endings.{last_letter}
use Rattle.passes.proofs.ends_in_letter.Goals as goal

pub returns-then-text-eq0 : goal.returns-then-text-eq0
unfolding last_letter
returns-then-text-eq0 c = no_last (letter_byte c.args.ready.now) c.args.text.now (omega arith)

pub returns : goal.returns
unfolding last_letter letter_byte
returns c =
    ap (λ k. eqb k 1) (c.number_at.ensures ∙ ap (λ i. get_or c.args.ready.now i 0) c.byte.ensures.0)
    ∙ last-there (letter_byte c.args.ready.now) c.args.text.now (omega arith)
