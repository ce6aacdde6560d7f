-- `vowel_step::form`: one law for each way out.
use mathlib.Core.Path.{sym, ap, ◌∙◌}
use native.Mathlib.Omega.{arith}
use Rattle.ends.specs.Shown.{shown, form_means}
use Rattle.ends.specs.declared.Which.{Which}
use Rattle.edge_places.specs.Shows.{memory}
use Rattle.words.specs.Did.{did_by, asked-none}
use Rattle.words.specs.Given.{seen, size, line-size}
use Rattle.rule_choice.specs.Lent.{lexicon_of}
use Rattle.vowel_step.specs.Ways.{takes_none, stays_bare, after-virama, word_starts, by-settled}
use Rattle.words.specs.Characters.{flag_prev}
use Rattle.vowel_step.proofs.form.Goals as goal

pub returns-then-is_bare : goal.returns-then-is_bare
unfolding shown
returns-then-is_bare c =
    λ vowel w e g. let u = shown c.args.bytes.now vowel c.args.f in
    let n = line-size g.text in
    let L = lexicon_of c.args.dicts.now.rules.now w c.args.dicts.now.code.now in
    let m = memory (size w) c.args.places.now in
    let x = sym c.takes_vowel.ensures ∙ c.if-not-takes_vowel.false in
    let y = sym (c.is_bare.ensures w g.text) ∙ c.if-is_bare.true in
    asked-none (stays_bare L w.text (seen w) c.args.tail u c.args.span.from c.args.span.to m x y)

pub returns-then-class_flag : goal.returns-then-class_flag
unfolding shown
returns-then-class_flag c =
    λ vowel w e g. let u = shown c.args.bytes.now vowel c.args.f in
    let n = line-size g.text in
    let L = lexicon_of c.args.dicts.now.rules.now w c.args.dicts.now.code.now in
    let m = memory (size w) c.args.places.now in
    let x = sym c.takes_vowel.ensures ∙ c.if-not-takes_vowel.false in
    let y = sym (c.is_bare.ensures w g.text) ∙ c.if-is_bare.false in
    let z = sym (flag_prev g.text c.args.span.from (omega (arith, c.args.span.forward, c.requires.1, n)) c.kind_at.ensures 3 (λ l. l.virama)
    (λ j l z. z.virama) c.class_flag.ensures) ∙ c.if-class_flag.true in
    asked-none (after-virama L w.text (seen w) c.args.tail u c.args.span.from c.args.span.to m x y z)

pub returns-then-starts_bare : goal.returns-then-starts_bare
unfolding shown
returns-then-starts_bare c =
    λ vowel w e g. let u = shown c.args.bytes.now vowel c.args.f in
    let n = line-size g.text in
    let L = lexicon_of c.args.dicts.now.rules.now w c.args.dicts.now.code.now in
    let m = memory (size w) c.args.places.now in
    let x = sym c.takes_vowel.ensures ∙ c.if-not-takes_vowel.false in
    let y = sym (c.is_bare.ensures w g.text) ∙ c.if-is_bare.false in
    let z = sym (flag_prev g.text c.args.span.from (omega (arith, c.args.span.forward, c.requires.1, n)) c.kind_at.ensures 3 (λ l. l.virama)
    (λ j l z. z.virama) c.class_flag.ensures) ∙ c.if-class_flag.false in
    let A = c.is_at_start_of_word-start.ensures w g in record {
      did = word_starts L w.text (seen w) c.args.tail u c.args.span.from c.args.span.to m x y z A.did (sym c.starts_bare.ensures ∙ c.if-starts_bare.true);
      kept = A.kept;
    }

pub returns : goal.returns
unfolding shown
returns c =
    λ vowel w e g. let u = shown c.args.bytes.now vowel c.args.f in
    let n = line-size g.text in
    let L = lexicon_of c.args.dicts.now.rules.now w c.args.dicts.now.code.now in
    let m = memory (size w) c.args.places.now in
    let x = sym c.takes_vowel.ensures ∙ c.if-not-takes_vowel.false in
    let y = sym (c.is_bare.ensures w g.text) ∙ c.if-is_bare.false in
    let z = sym (flag_prev g.text c.args.span.from (omega (arith, c.args.span.forward, c.requires.1, n)) c.kind_at.ensures 3 (λ l. l.virama)
    (λ j l z. z.virama) c.class_flag.ensures) ∙ c.if-class_flag.false in
    let A = c.is_at_start_of_word-start.ensures w g in record {
      did = did_by (ap (λ (o : Which). form_means o u) (c.form_settled.ensures w e g.text))
          (by-settled L w.text (seen w) c.args.tail u c.args.span.from c.args.span.to m x y z A.did (sym c.starts_bare.ensures ∙ c.if-starts_bare.false));
      kept = A.kept;
    }

pub returns-then-not-takes_vowel : goal.returns-then-not-takes_vowel
unfolding shown
returns-then-not-takes_vowel c =
    λ vowel w e g. let u = shown c.args.bytes.now vowel c.args.f in
    let L = lexicon_of c.args.dicts.now.rules.now w c.args.dicts.now.code.now in
    let m = memory (size w) c.args.places.now in
    let x = sym c.takes_vowel.ensures ∙ c.if-not-takes_vowel.true in
    asked-none (takes_none L w.text (seen w) c.args.tail u c.args.span.from c.args.span.to m x)
