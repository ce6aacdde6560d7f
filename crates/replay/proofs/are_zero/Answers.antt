-- `replay::are_zero`: each byte is compared with zero.
use lib.Dec.{eqb}
use Rattle.std.proofs.Common.{rules, tests, ◌∙◌}
use Rattle.std.proofs.lemmas.Iterator.{YieldsList-from_slice}
use Rattle.std.proofs.lemmas.Iterator.Search.{all_from_yields_List}
use Rattle.lent_bytes.specs.Library.{all_is}
use Rattle.replay.specs.Given.{zeros}
use Rattle.replay.proofs.are_zero.Goals as goal

pub returns : goal.returns
unfolding zeros
returns c =
    all_from_yields_List (eqb 0) _ _ _ c.all.ensures.ran (YieldsList-from_slice c.args.s.now cc) (λ x b q k. search (rules, tests))
    ∙ all_is (eqb 0) c.args.s.now
