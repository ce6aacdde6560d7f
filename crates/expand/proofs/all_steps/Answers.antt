-- `expand::all_steps`: no bytes stay as they are; else the steps by script end it, or the rest comes.
use native.Mathlib.Omega.{arith}
use lib.ListN.{take}
use Rattle.base.specs.ListLaws.{same_some}
use Rattle.rom.specs.Rom.{text-length}
use Rattle.edge_places.specs.Shows.{memory}
use Rattle.words.specs.Did.{asked-none}
use Rattle.words.specs.Given.{seen, size}
use Rattle.words.specs.Choosing.{choices_of}
use Rattle.rule_choice.specs.Lent.{lexicon_of}
use Rattle.expand.specs.Tests.{nothing-to-expand, broken-off, gone-on}
use Rattle.expand.proofs.Ways.{no_text}
use Rattle.expand.proofs.all_steps.Goals as goal

pub returns-then-n-eq0 : goal.returns-then-n-eq0
returns-then-n-eq0 c =
    let w = take c.args.n c.args.bytes.now in (
      (λ u e h. let L = lexicon_of c.args.dicts.now.rules.now u c.args.dicts.now.code.now in
          let m = memory (size u) c.args.places.now in
          asked-none (nothing-to-expand L u.text (seen u) (choices_of c.args.choices) w c.args.span.from c.args.span.to m
          (no_text w (omega (arith, text-length c.requires.0))))),
      c.requires.0,
    )

pub returns-in-Break : goal.returns-in-Break
returns-in-Break c =
    let w = take c.args.n c.args.bytes.now in
    let X = c.in-Break.ensures in (
      (λ u e h.
          let L = lexicon_of c.args.dicts.now.rules.now u c.args.dicts.now.code.now in
          let m = memory (size u) c.args.places.now in
          asked-none (broken-off L u.text (seen u) (choices_of c.args.choices) w c.args.span.from c.args.span.to m
          (same_some w (omega (arith, text-length c.requires.0))) (c.first_steps-g.ensures.0 u h.text) (X.0 u c.args.dicts.now.code.now h))),
      X.1,
    )

pub returns-in-Continue : goal.returns-in-Continue
returns-in-Continue c =
    let w = take c.args.n c.args.bytes.now in
    let X = c.in-Continue.ensures in (
      (λ u e h.
          let L = lexicon_of c.args.dicts.now.rules.now u c.args.dicts.now.code.now in
          let m = memory (size u) c.args.places.now in
          let A = c.rest.ensures.0 u e h in
          record {
            did = gone-on L u.text (seen u) (choices_of c.args.choices) w c.args.span.from c.args.span.to m
                (same_some w (omega (arith, text-length c.requires.0))) (c.first_steps-g.ensures.0 u h.text) _ (X.0 u c.args.dicts.now.code.now h) A.did;
            kept = A.kept;
          }),
      c.rest.ensures.1,
    )
