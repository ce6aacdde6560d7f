-- `utf8::first_left_out`: the position of the first that passes is the definition's.
use Rattle.std.proofs.Common.{ap, ◌∙◌, rules, tests}
use Rattle.std.proofs.lemmas.Iterator.{YieldsList-from_slice}
use Rattle.std.proofs.lemmas.Iterator.Search.{position_from_yields_List}
use Rattle.definition.specs.Texts.{left_out}
use Rattle.utf8.specs.Read.{found_means}
use Rattle.utf8.proofs.Walks.{first_by_position}
use Rattle.utf8.proofs.first_left_out.Goals as goal

pub returns : goal.returns
returns c =
    let t = c.args.chars.now in
    ap found_means (position_from_yields_List left_out _ _ _ c.position.ensures.ran (YieldsList-from_slice t cc) (λ x b q k. search (rules, tests)))
    ∙ first_by_position t
