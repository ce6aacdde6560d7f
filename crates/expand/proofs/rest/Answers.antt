-- `expand::rest`
use mathlib.Core.Path.{◌∙◌}
use Rattle.edge_places.specs.Shows.{memory}
use Rattle.words.specs.Did.{did_by}
use Rattle.words.specs.Given.{seen, size, lent-after}
use Rattle.rule_choice.specs.Lent.{lexicon_of}
use Rattle.steps.specs.Works.{work_in}
use Rattle.expand.specs.Tests.{rest-is}
use Rattle.expand.proofs.rest.Goals as goal

pub returns : goal.returns
returns c = (
  λ u e h. let L = lexicon_of c.args.dicts.now.rules.now u c.args.dicts.now.code.now in
      let m = memory (size u) c.args.places.now in
      let A = c.grave-u.ensures.0 u e h in
      let B = c.small_y-x.ensures.0 u e (lent-after _ h A.kept) in record {
        did = did_by (c.ending.ensures.0 u h.text) (rest-is L u.text (seen u) c.args.o (work_in c.args.bytes.now c.args.g) m A.did B.did);
        kept = B.kept ∙ A.kept;
      },
  c.ending.ensures.1,
)
