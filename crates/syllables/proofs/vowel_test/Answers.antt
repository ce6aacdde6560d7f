-- `syllables::vowel_test`
use mathlib.Core.Bool.{not}
use mathlib.Core.Path.{sym, ap, ◌∙◌}
use Rattle.words.specs.Did.{did_by}
use Rattle.edge_places.specs.Shows.{memory}
use Rattle.words.specs.Given.{seen, size, lent-after}
use Rattle.rule_choice.specs.Lent.{lexicon_of}
use Rattle.syllables.specs.Tests.{no_vowel, a_vowel}
use Rattle.syllables.proofs.vowel_test.Goals as goal

pub returns-else-not-opens : goal.returns-else-not-opens
returns-else-not-opens c =
    λ w e g. let A = c.next_rom-rom.ensures.0 w e g in
    let B = c.o_ang_test.ensures w e (lent-after _ g A.kept) in record {
      did = a_vowel (lexicon_of c.args.dicts.now.rules.now w c.args.dicts.now.code.now) w.text (seen w) c.args.q (memory (size w) c.args.places.now) A.did
          (sym c.opens.ensures ∙ c.if-not-opens.false) B.did;
      kept = B.kept ∙ A.kept;
    }

pub returns-then-not-opens : goal.returns-then-not-opens
returns-then-not-opens c =
    λ w e g. let A = c.next_rom-rom.ensures.0 w e g in record {
      did = did_by (ap not c.if-not-opens.true) (no_vowel (lexicon_of c.args.dicts.now.rules.now w c.args.dicts.now.code.now) w.text (seen w) c.args.q (memory (size w) c.args.places.now) A.did
          (sym c.opens.ensures ∙ c.if-not-opens.true));
      kept = A.kept;
    }
