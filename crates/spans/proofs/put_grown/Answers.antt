-- `spans::put_grown`: the expansion with the choices that were made ready.
use mathlib.Core.List.{List}
use mathlib.Core.Path.{ap, ◌∙◌, subst}
use Prim.Native.Nat.{ℕ}
use Rattle.definition.specs.Tables.{Choices}
use Rattle.definition.specs.Expansion.{work, expand}
use Rattle.rom.specs.Rom.{text}
use Rattle.words.specs.Did.{Asked, asked_by}
use Rattle.words.specs.Given.{seen}
use Rattle.rule_choice.specs.Lent.{lexicon_of}
use Rattle.steps.specs.Works.{work_of}
use Rattle.spans.proofs.Held.{held-text, held_clean}
use Rattle.spans.proofs.put_grown.Goals as goal

pub returns : goal.returns
returns c =
    let z = c.expand_rom_with_special_chars-x.result in
    let e = c.put_first.ensures in (
      λ u told lent.
          asked_by (ap (λ (w : List ℕ). work w z.from z.to z.note) (held-text c.expand_rom_with_special_chars-x.ensures.1 c.args.bytes.now _ c.requires.3 e))
          (subst (λ (o : Choices). Asked u (expand (lexicon_of c.args.dicts.now.rules.now u c.args.dicts.now.code.now) u.text (seen u) o (text c.args.r) c.args.span.from c.args.span.to)
          c.args.places.now c.expand_rom_with_special_chars-x.new.places (work_of z)) (c.choices_in.ensures ∙ told.choices) (c.expand_rom_with_special_chars-x.ensures.0 u told lent)),
      held_clean c.expand_rom_with_special_chars-x.ensures.1 c.args.bytes.now _ c.requires.3 e,
    )
