-- `words::has_letter`: of each byte it was told once.
use Rattle.std.proofs.Common.{rules, tests, ◌∙◌}
use Rattle.std.proofs.lemmas.Iterator.{YieldsList-from_slice}
use Rattle.std.proofs.lemmas.Iterator.Search.{any_from_yields_List}
use Rattle.words.proofs.Ends.{any_is}
use Rattle.words.specs.Goes.{letter_byte}
use Rattle.words.proofs.has_letter.Goals as goal

pub returns : goal.returns
unfolding letter_byte
returns c =
    any_from_yields_List (letter_byte c.args.ready.now) _ _ _ c.any.ensures.ran (YieldsList-from_slice c.args.text.now cc) (λ x b q k. search (rules, tests))
    ∙ any_is _ c.args.text.now
