-- `syllables::next_rom`
use mathlib.Core.Path.{sym, ◌∙◌}
use Rattle.edge_places.specs.Shows.{memory}
use Rattle.words.specs.Given.{seen, size, lent-after}
use Rattle.rule_choice.specs.Lent.{lexicon_of}
use Rattle.rule_choice.specs.Chosen.{has-chosen}
use Rattle.syllables.specs.Tests.{two-told, one_told}
use Rattle.syllables.proofs.next_rom.Goals as goal

pub returns-then-is_some : goal.returns-then-is_some
returns-then-is_some c = (
  λ w e g. let A = c.simple_top_romanization_candidate_for_span-two.ensures.0 w e g in record {
    did = two-told (lexicon_of c.args.dicts.now.rules.now w c.args.dicts.now.code.now) w.text (seen w) c.args.q (memory (size w) c.args.places.now) A.did
        (sym (c.is_some.ensures ∙ has-chosen c.args.dicts.now.rules.now c.simple_top_romanization_candidate_for_span-two.result) ∙ c.if-is_some.true);
    kept = A.kept;
  },
  c.simple_top_romanization_candidate_for_span-two.ensures.1,
)

pub returns : goal.returns
returns c = (
  λ w e g. let A = c.simple_top_romanization_candidate_for_span-two.ensures.0 w e g in
      let B = c.simple_top_romanization_candidate_for_span.ensures.0 w e (lent-after _ g A.kept) in record {
        did = one_told (lexicon_of c.args.dicts.now.rules.now w c.args.dicts.now.code.now) w.text (seen w) c.args.q (memory (size w) c.args.places.now) A.did
            (sym (c.is_some.ensures ∙ has-chosen c.args.dicts.now.rules.now c.simple_top_romanization_candidate_for_span-two.result) ∙ c.if-is_some.false) B.did;
        kept = B.kept ∙ A.kept;
      },
  c.simple_top_romanization_candidate_for_span.ensures.1,
)
