-- `spans::voiceless_edge`: the target itself, or what the expansion makes of it.
use mathlib.Core.List.{List, ◌++◌}
use mathlib.Core.Path.{refl, sym, ap, ◌∙◌, subst}
use Prim.Native.Nat.{ℕ, ◌≤◌}
use native.Mathlib.Omega.{arith}
use lib.ListN.{length, take, drop}
use lib.Seq.{take-length}
use Rattle.definition.specs.Limits.{most_bytes}
use Rattle.definition.specs.Texts.{Text}
use Rattle.definition.specs.Tables.{Choices, lexicon}
use Rattle.definition.specs.Notes.{note_none}
use Rattle.definition.specs.Edges.{M, ret}
use Rattle.definition.specs.Expansion.{Work, work, expand}
use Rattle.definition.specs.Building.{as_edge}
use Rattle.definition.specs.Call.{tables_of}
use Rattle.edge_places.specs.Shows.{memory}
use Rattle.rom.specs.Rom.{len_by, text-by, clean_by}
use Rattle.rom.proofs.Writes.{over_zeros}
use Rattle.words.specs.Did.{did, did_by, Asked, asked-none}
use Rattle.words.specs.Given.{seen, size}
use Rattle.rule_choice.specs.Lent.{lexicon_of}
use Rattle.steps.specs.Works.{work_in}
use Rattle.vowel_step.proofs.Letters.{stays}
use Rattle.plain.specs.Plain.{Untouched}
use Rattle.spans.specs.Ways.{edge-done}
use Rattle.spans.proofs.voiceless_edge.Goals as goal

pub returns-then-is_untouched : goal.returns-then-is_untouched
unfolding tables_of ret
returns-then-is_untouched c =
    let w = c.args.w.now in
    let q = over_zeros _ w (c.put_text.ensures ∙ ap (λ (l : List ℕ). w ++ drop (length w) l) c.requires.2) in
    let h : length w ≤ most_bytes = omega (arith, c.requires.0) in
    let E = c.as_edge.ensures w w _ (sym (stays w)) refl in
    λ vowels voiceless. (
      λ u told lent.
          let D = tables_of u.choices c.args.dicts.now.rules.now u.classes vowels c.args.dicts.now.code.now in
          let m = memory (size u) c.args.places.now in
          let U = subst (λ (l : Text). Untouched u u.choices l c.args.span.from c.args.span.to) (take-length w)
          (subst (λ (o : Choices). Untouched u o (take (length w) w) c.args.span.from c.args.span.to) (c.choices_in.ensures ∙ told.choices) (c.is_untouched.ensures c.if-is_untouched.true u lent.text)) in
          asked-none (did_by (E ∙ ap (λ (r : Text). as_edge c.args.tail w w (work r c.args.span.from c.args.span.to note_none)) (text-by w q h))
          (edge-done D u.text (seen u) c.args.tail w w (work w c.args.span.from c.args.span.to note_none) c.args.span.from c.args.span.to m
          (did (ap (λ (f : M Text). f m) (voiceless u lent.text (lexicon D) refl (seen u) c.args.tail w)))
          (did (ap (λ (f : M Work). f m) (U (lexicon D) refl (seen u)))))),
      clean_by w q h,
    )

pub put_grown-x-requires : goal.put_grown-x-requires
put_grown-x-requires c =
    let w = c.args.w.now in
    let h : length w ≤ most_bytes = omega (arith, c.requires.0) in
    (clean_by w c.bytes_of.ensures h, omega (arith, c.requires.0, len_by w c.bytes_of.ensures), c.requires.1, c.requires.2)

pub returns : goal.returns
unfolding tables_of ret
returns c =
    let w = c.args.w.now in
    let b = c.put_grown-x.new.bytes in
    let t = text-by w c.bytes_of.ensures (omega (arith, c.requires.0)) in
    let E = c.as_edge-2.ensures w w (take c.put_grown-x.result.len b) (sym (stays w)) refl in
    λ vowels voiceless. (
      λ u told lent.
          let D = tables_of u.choices c.args.dicts.now.rules.now u.classes vowels c.args.dicts.now.code.now in
          let m = memory (size u) c.args.places.now in
          let Z = subst (λ (l : Text). Asked u (expand (lexicon_of c.args.dicts.now.rules.now u c.args.dicts.now.code.now) u.text (seen u) u.choices l c.args.span.from c.args.span.to)
          c.args.places.now c.put_grown-x.new.places (work_in b c.put_grown-x.result)) t (c.put_grown-x.ensures.0 u told lent) in
          record {
            did = did_by E (edge-done D u.text (seen u) c.args.tail w w (work_in b c.put_grown-x.result) c.args.span.from c.args.span.to m
                (did (ap (λ (f : M Text). f m) (voiceless u lent.text (lexicon D) refl (seen u) c.args.tail w))) Z.did);
            kept = Z.kept;
          },
      c.put_grown-x.ensures.1,
    )
