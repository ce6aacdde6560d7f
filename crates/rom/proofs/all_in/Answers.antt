-- `rom::all_in`: the closure tests each byte as the set of the clause does.
use Rattle.std.proofs.Common.{rules, tests, ◌∙◌}
use Rattle.std.proofs.lemmas.Iterator.{YieldsList-from_slice}
use Rattle.std.proofs.lemmas.Iterator.Search.{all_from_yields_List}
use Rattle.lent_bytes.specs.Library.{all_is}
use Rattle.rom.specs.Sets.{member}
use Rattle.rom.proofs.all_in.Goals as goal

pub returns : goal.returns
returns c =
    all_from_yields_List (member c.args.set) _ _ _ c.all.ensures.ran (YieldsList-from_slice c.args.s.now cc) (λ x b q k. search (rules, tests))
    ∙ all_is (member c.args.set) c.args.s.now
