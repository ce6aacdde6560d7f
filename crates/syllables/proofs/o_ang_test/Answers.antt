-- `syllables::o_ang_test`
use mathlib.Core.Path.{◌≡◌}
use native.Mathlib.Omega.{arith}
use borrow.Author.Tests.{eq-eqb, ne_eqb}
use Rattle.definition.specs.Texts.{at, o_ang}
use Rattle.edge_places.specs.Shows.{memory}
use Rattle.words.specs.Did.{asked_by, asked-none}
use Rattle.words.specs.Given.{seen, size, line-size, char_at}
use Rattle.rule_choice.specs.Lent.{lexicon_of}
use Rattle.syllables.specs.Tests.{o_ang_follows, no_o_ang}
use Rattle.syllables.proofs.o_ang_test.Goals as goal

pub returns : goal.returns
returns c =
    λ w e g. let A = c.simple_top_romanization_candidate_for_span-rom.ensures.0 w e g in
    let z = line-size g.text in
    let here : at w.text c.args.q ≡ o_ang = omega (arith, char_at g.text c.args.q (omega (arith, c.requires)), c.number_at.ensures) in
    asked_by c.opens.ensures record {
      did = o_ang_follows (lexicon_of c.args.dicts.now.rules.now w c.args.dicts.now.code.now) w.text (seen w) c.args.q (memory (size w) c.args.places.now) (eq-eqb (at w.text c.args.q) o_ang here) A.did;
      kept = A.kept;
    }

pub returns-then-number_at-ne-O_ANG : goal.returns-then-number_at-ne-O_ANG
returns-then-number_at-ne-O_ANG c =
    λ w e g. let z = line-size g.text in
    asked-none (no_o_ang (lexicon_of c.args.dicts.now.rules.now w c.args.dicts.now.code.now) w.text (seen w) c.args.q (memory (size w) c.args.places.now)
    (ne_eqb (at w.text c.args.q) o_ang (λ y. omega (arith, y, char_at g.text c.args.q (omega (arith, c.requires)), c.number_at.ensures))))
