-- `vowel_step::put_vowel`: without a row nothing changes; with one the chosen form is made, and it is the definition's.
use mathlib.Core.Path.{refl, sym, ap, ◌∙◌, subst}
use Prim.Native.Nat.{ℕ, ◌≤◌}
use native.Mathlib.Omega.{arith}
use lib.ListN.{length, take}
use Rattle.definition.specs.Limits.{most_bytes}
use Rattle.definition.specs.Texts.{at}
use Rattle.definition.specs.Classes.{script}
use Rattle.definition.specs.VowelRows.{vowels_of}
use Rattle.definition.specs.Building.{grown}
use Rattle.rom.specs.Rom.{text-length, bytes-length, len_by, text-by, clean_by}
use Rattle.ends.specs.Shown.{Within, shown, form_means}
use Rattle.ends.specs.Grew.{grown_as, chosen-length}
use Rattle.edge_places.specs.Shows.{memory}
use Rattle.words.specs.Did.{did_by, asked-none}
use Rattle.words.specs.Given.{kinds, seen, size, line-size}
use Rattle.words.specs.Characters.{script-here}
use Rattle.rule_choice.specs.Lent.{lexicon_of}
use Rattle.vowel_step.specs.Ways.{no_row, by_row}
use Rattle.vowel_step.proofs.Letters.{none_told, placed, row_told, some_letter, few_letters, stays}
use Rattle.vowel_step.proofs.put_vowel.Goals as goal

pub returns-in_default : goal.returns-in_default
returns-in_default c =
    let t = take c.args.n c.args.bytes.now in (
      λ w e g. asked-none (no_row (lexicon_of c.args.dicts.now.rules.now w c.args.dicts.now.code.now) w.text (seen w) (vowels_of c.args.dicts.now.vowels.now) c.args.tail t
          c.args.span.from c.args.span.to (memory (size w) c.args.places.now)
          (none_told c.args.dicts.now.vowels.now c.script_at.result c.vowel_row.result c.vowel_row.ensures.0 (script (kinds w) (at w.text c.args.span.from))
          (script-here g.text c.args.span.from (omega (arith, c.args.span.forward, c.requires.3, line-size g.text)) refl c.script_at.ensures) c.in_default.is)),
      c.requires.1,
      omega arith,
      sym (stays t),
    )

pub vowel_letters-letters-requires : goal.vowel_letters-letters-requires
vowel_letters-letters-requires c =
    let q = placed c.args.dicts.now.vowels.now c.script_at.result c.vowel_row.result c.vowel_row.ensures.0 _ c.in-Some.is c.vowel_row.ensures.1 in
    (q.0, q.2)

pub slice_bounds-shape_of-end : goal.slice_bounds-shape_of-end
slice_bounds-shape_of-end c =
    let p = c.requires.1 in
    omega (arith, bytes-length p, p.fits)

pub slice_bounds-shape_of-end-2 : goal.slice_bounds-shape_of-end-2
slice_bounds-shape_of-end-2 c =
    sym (text-length c.requires.1)

pub shape-len-requires : goal.shape-len-requires
shape-len-requires c =
    let l = few_letters c.args.dicts.now.vowels.now c.script_at.result c.vowel_row.result c.vowel_row.ensures.0 _ c.in-Some.is c.vowel_letters-letters.result.now c.vowel_letters-letters.ensures c.vowel_row.ensures.1 in
    (c.requires.1, subst (λ (n : ℕ). Within n c.shape_of-shape.result.forms) (text-length c.requires.1) c.shape_of-shape.ensures.0, omega (arith, l, c.requires.2))

pub returns : goal.returns
returns c =
    let b = c.args.dicts.now.vowels.now in
    let x = c.vowel_letters-letters.result.now in
    let z = c.vowel_letters-letters.ensures in
    let t = take c.args.n c.args.bytes.now in
    let f = c.shape_of-shape.result.forms in
    let h = c.shape_of-shape.result.which in
    let u = form_means h (shown t x f) in
    let m = c.shape-len.ensures in
    let few = few_letters b c.script_at.result c.vowel_row.result c.vowel_row.ensures.0 _ c.in-Some.is x z c.vowel_row.ensures.1 in
    let some = some_letter b c.script_at.result c.vowel_row.result c.vowel_row.ensures.0 _ c.in-Some.is x z c.requires.0 in
    let l = chosen-length t x f c.shape_of-shape.ensures.0 h in
    let fits : length u ≤ most_bytes = omega (arith, l, few, text-length c.requires.1, c.requires.2) in
    let q = text-by u m fits in (
      λ w e g. let A = c.shape_of-shape.ensures.1 x w e g in record {
        did = did_by q (by_row (lexicon_of c.args.dicts.now.rules.now w c.args.dicts.now.code.now) w.text (seen w) (vowels_of b) c.args.tail t
            c.args.span.from c.args.span.to (memory (size w) c.args.places.now) _
            (row_told b c.script_at.result c.vowel_row.result c.vowel_row.ensures.0 _ c.in-Some.is x z (script (kinds w) (at w.text c.args.span.from))
            (script-here g.text c.args.span.from (omega (arith, c.args.span.forward, c.requires.3, line-size g.text)) refl c.script_at.ensures)) A.did);
        kept = A.kept;
      },
      clean_by u m fits,
      omega (arith, len_by u m, l, few, text-length c.requires.1),
      c.is_grown.ensures ∙ sym (grown_as t x f c.shape_of-shape.ensures.0 some h) ∙ ap (grown t) (sym q),
    )
