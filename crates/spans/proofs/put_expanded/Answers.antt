-- `spans::put_expanded`: what the expansion leaves as it is, or else what it makes.
use mathlib.Core.List.{List}
use mathlib.Core.Path.{refl, ap, ◌∙◌, subst}
use Prim.Native.Nat.{ℕ}
use Rattle.definition.specs.Tables.{Choices}
use Rattle.definition.specs.Notes.{note_none}
use Rattle.definition.specs.Edges.{M, ret}
use Rattle.definition.specs.Expansion.{Work, work}
use Rattle.edge_places.specs.Shows.{memory}
use Rattle.rom.specs.Rom.{text}
use Rattle.words.specs.Did.{did, did_by, asked-none}
use Rattle.words.specs.Given.{seen, size}
use Rattle.rule_choice.specs.Lent.{lexicon_of}
use Rattle.plain.specs.Plain.{Untouched}
use Rattle.spans.proofs.Held.{held-text, held_clean}
use Rattle.spans.proofs.put_expanded.Goals as goal

pub returns-then-is_untouched : goal.returns-then-is_untouched
unfolding ret
returns-then-is_untouched c =
    let e = c.put_first.ensures in (
      λ u told lent.
          let m = memory (size u) c.args.places.now in
          let U = subst (λ (o : Choices). Untouched u o (text c.args.r) c.args.span.from c.args.span.to) (c.choices_in.ensures ∙ told.choices) (c.is_untouched.ensures c.if-is_untouched.true u lent.text) in
          asked-none (did_by (ap (λ (w : List ℕ). work w c.args.span.from c.args.span.to note_none) (held-text c.requires.0 c.args.bytes.now _ c.requires.3 e))
          (did (ap (λ (f : M Work). f m) (U (lexicon_of c.args.dicts.now.rules.now u c.args.dicts.now.code.now) refl (seen u))))),
      held_clean c.requires.0 c.args.bytes.now _ c.requires.3 e,
    )
