-- `rom::any_between`: the closure tests each byte as the set of the clause does.
use Rattle.std.proofs.Common.{rules, tests, ◌∙◌}
use Rattle.std.proofs.lemmas.Iterator.{YieldsList-from_slice}
use Rattle.std.proofs.lemmas.Iterator.Search.{any_from_yields_List}
use Rattle.lent_bytes.specs.Library.{any_is}
use Rattle.rom.specs.Sets.{between}
use Rattle.rom.proofs.any_between.Goals as goal

pub returns : goal.returns
returns c =
    any_from_yields_List (between c.args.first c.args.last) _ _ _ c.any.ensures.ran (YieldsList-from_slice c.args.s.now cc) (λ x b q k. search (rules, tests))
    ∙ any_is (between c.args.first c.args.last) c.args.s.now
