-- `expand::thai`: the pattern, or else the vowel before; then a silent O ang leaves nothing.
use mathlib.Core.List.{List, []}
use mathlib.Core.Path.{sym, ap, ◌∙◌}
use Prim.Native.Nat.{ℕ}
use native.Mathlib.Omega.{arith}
use Rattle.definition.specs.RuleRows.{rules_of}
use Rattle.definition.specs.Expansion.{before}
use Rattle.rom.specs.Rom.{text-by, clean_by}
use Rattle.words.specs.Given.{kinds, seen}
use Rattle.words.specs.Choosing.{choices_of}
use Rattle.rule_choice.specs.Lent.{lexicon_of}
use Rattle.steps.specs.Works.{work_in}
use Rattle.expand.specs.Tests.{patterned, deleted, spoken}
use Rattle.expand.proofs.thai.Goals as goal

pub returns-in-Some : goal.returns-in-Some
returns-in-Some c =
    let X = c.in-Some.ensures in (
      (λ x code h. patterned (lexicon_of c.args.dicts.now.rules.now x code) x.text (seen x) (choices_of c.args.choices) c.args.o
          (work_in c.args.bytes.now c.args.g) (X.0 x h.text)),
      X.1.0,
    )

pub returns-then-is_silent : goal.returns-then-is_silent
returns-then-is_silent c =
    let w = work_in c.args.bytes.now c.args.g in
    let X = c.in_default.ensures in
    let K = c.keep.ensures in
    let S = c.is_silent.ensures in
    let I = c.if-is_silent.true in
    let R = rules_of c.args.dicts.now.rules.now in (
      (λ x code h.
          let L = lexicon_of c.args.dicts.now.rules.now x code in
          let made = c.vowel_before-u.ensures.0 x h.text ∙ ap (λ (b : List ℕ). before R (kinds x) x.text (work_in b c.args.g)) X.1 in
          deleted L x.text (seen x) (choices_of c.args.choices) c.args.o w (X.0 x h.text) (work_in _ c.vowel_before-u.result) made (text-by [] K (omega arith)) (sym (S x _ h) ∙ I)),
      clean_by [] K (omega arith),
    )

pub returns : goal.returns
returns c =
    let w = work_in c.args.bytes.now c.args.g in
    let X = c.in_default.ensures in
    let S = c.is_silent.ensures in
    let I = c.if-is_silent.false in
    let R = rules_of c.args.dicts.now.rules.now in (
      (λ x code h.
          let L = lexicon_of c.args.dicts.now.rules.now x code in
          let made = c.vowel_before-u.ensures.0 x h.text ∙ ap (λ (b : List ℕ). before R (kinds x) x.text (work_in b c.args.g)) X.1 in
          spoken L x.text (seen x) (choices_of c.args.choices) c.args.o w (X.0 x h.text) (work_in _ c.vowel_before-u.result) made (sym (S x _ h) ∙ I)),
      (c.requires.0, c.vowel_before-u.ensures.1, omega (arith, c.vowel_before-u.ensures.2, c.requires.2), omega (arith, c.vowel_before-u.ensures.4, c.requires.3), omega (arith, c.vowel_before-u.ensures.3, c.vowel_before-u.ensures.4, c.requires.4), omega (arith, c.vowel_before-u.ensures.4, c.requires.5)),
    )
