-- `expand::is_ruled`
use mathlib.Core.Path.{◌∙◌}
use Rattle.edge_places.specs.Shows.{memory}
use Rattle.words.specs.Did.{did_by}
use Rattle.words.specs.Given.{seen, size}
use Rattle.rule_choice.specs.Lent.{lexicon_of}
use Rattle.rule_choice.specs.Chosen.{has-chosen}
use Rattle.expand.specs.Tests.{ruled-is}
use Rattle.expand.proofs.is_ruled.Goals as goal

pub returns : goal.returns
returns c =
    let R = c.args.dicts.now.rules.now in
    λ u e h. let A = c.simple_top_romanization_candidate_for_span.ensures.0 u e h in record {
      did = did_by (c.is_some.ensures ∙ has-chosen R c.simple_top_romanization_candidate_for_span.result)
          (ruled-is (lexicon_of R u c.args.dicts.now.code.now) u.text (seen u) c.args.span.from c.args.span.to (memory (size u) c.args.places.now) A.did);
      kept = A.kept;
    }
