-- `vowel_step::form_settled`: at the end of a word by language and script, else as inside it.
use mathlib.Core.Path.{refl, sym, ap, ◌∙◌}
use native.Mathlib.Omega.{arith}
use Rattle.definition.specs.Vowels.{keeps_end}
use Rattle.words.specs.Given.{line-size}
use Rattle.rule_choice.specs.Lent.{lexicon_of}
use Rattle.vowel_step.specs.Ways.{in_word, end_kept, end-voiced}
use Rattle.words.specs.Characters.{script-here}
use Rattle.vowel_step.proofs.form_settled.Goals as goal

pub returns-then-keeps_end : goal.returns-then-keeps_end
returns-then-keeps_end c =
    λ w e g. let L = lexicon_of c.args.dicts.now.rules.now w c.args.dicts.now.code.now in
    let x = script-here g c.args.span.from (omega (arith, c.args.span.forward, c.requires, line-size g)) refl c.script_at.ensures in
    end_kept L w.text c.args.span.from c.args.span.to (sym (c.is_at_end_of_word.ensures w e g) ∙ c.if-is_at_end_of_word.true)
    (sym (c.keeps_end.ensures ∙ ap (keeps_end c.args.dicts.now.code.now) x) ∙ c.if-keeps_end.true)

pub returns-then-is_at_end_of_word : goal.returns-then-is_at_end_of_word
returns-then-is_at_end_of_word c =
    λ w e g. let L = lexicon_of c.args.dicts.now.rules.now w c.args.dicts.now.code.now in
    let x = script-here g c.args.span.from (omega (arith, c.args.span.forward, c.requires, line-size g)) refl c.script_at.ensures in
    end-voiced L w.text c.args.span.from c.args.span.to (sym (c.is_at_end_of_word.ensures w e g) ∙ c.if-is_at_end_of_word.true)
    (sym (c.keeps_end.ensures ∙ ap (keeps_end c.args.dicts.now.code.now) x) ∙ c.if-keeps_end.false)

pub returns : goal.returns
returns c =
    λ w e g. let L = lexicon_of c.args.dicts.now.rules.now w c.args.dicts.now.code.now in
    c.form_inside.ensures w g
    ∙ in_word L w.text c.args.span.from c.args.span.to (sym (c.is_at_end_of_word.ensures w e g) ∙ c.if-is_at_end_of_word.false)
