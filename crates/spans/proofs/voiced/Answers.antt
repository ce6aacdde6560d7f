-- `spans::voiced`: the vowel step of the copied text, which is the text.
use mathlib.Core.Path.{ap, ◌∙◌, subst}
use native.Mathlib.Omega.{arith}
use Rattle.definition.specs.Texts.{Text}
use Rattle.definition.specs.VowelRows.{vowels_of}
use Rattle.definition.specs.Vowels.{vowel_step}
use Rattle.definition.specs.Building.{grown}
use Rattle.rom.specs.declared.Rom.{Rom}
use Rattle.rom.specs.Rom.{text, len_by, text-by, clean_by}
use Rattle.words.specs.Did.{Asked}
use Rattle.words.specs.Given.{seen}
use Rattle.rule_choice.specs.Lent.{lexicon_of}
use Rattle.spans.proofs.voiced.Goals as goal

pub add_default_abugida_vowel-requires : goal.add_default_abugida_vowel-requires
add_default_abugida_vowel-requires c =
    let w = c.args.w.now in
    let q = c.bytes_of.ensures in
    (c.requires.0, clean_by w q (omega (arith, c.requires.1)), omega (arith, c.requires.1, len_by w q), c.requires.2)

pub returns : goal.returns
returns c =
    let w = c.args.w.now in
    let q = c.bytes_of.ensures in
    let new = text c.add_default_abugida_vowel.result.rom in (
      λ u told lent.
          subst (λ (x : Text). Asked u (vowel_step (lexicon_of c.args.dicts.now.rules.now u c.args.dicts.now.code.now) u.text (seen u) (vowels_of c.args.dicts.now.vowels.now) c.args.tail x
          c.args.span.from c.args.span.to) c.args.places.now c.add_default_abugida_vowel.new.places new) (text-by w q (omega (arith, c.requires.1))) (c.add_default_abugida_vowel.ensures.0 u told lent),
      c.add_default_abugida_vowel.ensures.1,
      omega (arith, c.add_default_abugida_vowel.ensures.2, ap (λ (r : Rom). r.len) q),
      c.add_default_abugida_vowel.ensures.3 ∙ ap (λ (r : Rom). grown (text r) new) q,
    )
